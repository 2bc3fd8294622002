-- Every good pattern compiles: how many instructions, variables and registers there can be. Assumes nothing.
use Prim.Native.Nat.{ℕ, zero, suc, ◌+◌, ◌-◌, ◌<◌, ◌≤◌}
use Rattle.std.proofs.Math.Path.{◌≡◌, refl}
use mathlib.Core.List.{List, [], ◌∷◌, ◌++◌}
use Rattle.std.specs.Prelude.{Bool, true, false, cond, not, Option, None, Some}
use Rattle.std.proofs.Math.ListN.{length, length-append}
use native.Mathlib.Omega.{arith}
use Rattle.meaning.specs.declared.Reg.{Reg}
use Rattle.meaning.specs.Tests.{and}
use Rattle.meaning.specs.Lists.{All, cons, Took, took_all}
use Rattle.meaning.specs.Pattern.{PNode, var, op, Pattern, node_of, Ordered, occ, sum}
use Rattle.meaning.specs.Program.{bind, lookat, reg, Held, held}
use Rattle.meaning.specs.Compiler.{Item, item, Root, State, state, Step, step, reg_of, is_ground, choose, number, is_leaf, met_var, met, taken, bind_once, entered, enter, after, joined, rooted, step_of, go}
use Rattle.meaning.specs.Laws.Instances.{occ_var, occ_op}
use Rattle.meaning.specs.Search.Order.{Stands, stands}
use Rattle.meaning.specs.Search.Measure.{load, load_took, load_append, occ_pos}
use Rattle.meaning.specs.Search.Steps.{Sane, stepped, choose_took}

-- occurrences of the patterns to come
unfoldable pub root_occ : Pattern → List Root → ℕ
root_occ p [] = 0
root_occ p (q ∷ R) = occ p q.top + root_occ p R

-- an instruction for each occurrence left, and one for each pattern to come
unfoldable pub work : Pattern → List Root → List Item → List Item → ℕ
work p R q t = length R + root_occ p R + (load (occ p) q + load (occ p) t)

-- an occurrence's own register is there already
unfoldable pub inner : Pattern → ℕ → ℕ
inner p n = occ p n - 1

-- the registers there will be
unfoldable pub width : Pattern → List Root → List Item → List Item → ℕ → ℕ
width p R q t k = k + root_occ p R + (load (inner p) q + load (inner p) t)

-- what a step adds is no more than it takes from the work
pub record Bounded (p : Pattern) (R : List Root) (q t : List Item) (B : List Held) (k : ℕ) (s : Step) : Type 0 where
  pub code : length s.emits + work p s.to.roots s.to.meet s.to.todo ≤ work p R q t
  pub vars : length s.to.binds + work p s.to.roots s.to.meet s.to.todo ≤ length B + work p R q t
  pub regs : width p s.to.roots s.to.meet s.to.todo s.to.next ≤ width p R q t k

load_number : (p : Pattern) (k : ℕ) (cs : List ℕ) → load (occ p) (number k cs) ≡ sum (occ p) cs
unfolding load number sum
load_number p k [] = refl
load_number p k (c ∷ cs) = let e = load_number p (suc k) cs in omega arith

inner_number : {p : Pattern} (o : Ordered p) (k : ℕ) (cs : List ℕ) → All (λ (x : Item). x.node < length p) (number k cs) → load (inner p) (number k cs) + length cs ≡ sum (occ p) cs
unfolding load number sum inner
inner_number o k [] a = refl
inner_number {p} o k (c ∷ cs) a = go a (λ r. inner_number o (suc k) cs r)
  where
    go : All (λ (x : Item). x.node < length p) (item c (reg k) ∷ number (suc k) cs) → (All (λ (x : Item). x.node < length p) (number (suc k) cs) → load (inner p) (number (suc k) cs) + length cs ≡ sum (occ p) cs)
        → (occ p c - 1) + load (inner p) (number (suc k) cs) + suc (length cs) ≡ occ p c + sum (occ p) cs
    go (cons h r) f = let i = occ_pos o c h in let e = f r in omega arith

one_more : (B : List Held) (b : Held) → length (B ++ (b ∷ [])) ≡ length B + 1
one_more B b = length-append B (b ∷ [])

module _ {p : Pattern} (o : Ordered p) where
  -- a variable met, in a list or waiting
  var_bounded : (v : ℕ) (s : Option Reg) (r : Reg) (R : List Root) (q₀ t₀ q t : List Item) (B : List Held) (k : ℕ)
      → work p R q t + 1 ≤ work p R q₀ t₀ → width p R q t k ≤ width p R q₀ t₀ k → Bounded p R q₀ t₀ B k (met_var v r s R q t B k)
  unfolding met_var
  var_bounded v None r R q₀ t₀ q t B k h w = let e = one_more B (held v r) in record { code = omega arith; vars = omega arith; regs = w }
  var_bounded v (Some j) r R q₀ t₀ q t B k h w = record { code = omega arith; vars = omega arith; regs = w }

  met_work : (x : Item) (v : ℕ) (R : List Root) (q t : List Item) (k : ℕ) → Stands p x.node (var v)
      → (work p R q t + 1 ≤ work p R (x ∷ q) t) × (width p R q t k ≤ width p R (x ∷ q) t k)
  unfolding work width load inner
  met_work x v R q t k s = let e = occ_var o s in (omega arith, omega arith)

  wait_work : (x : Item) (R : List Root) (q t : List Item) (k : ℕ) → (work p R q (t ++ (x ∷ [])) ≤ work p R (x ∷ q) t) × (width p R q (t ++ (x ∷ [])) k ≤ width p R (x ∷ q) t k)
  unfolding work width load
  wait_work x R q t k = let e = load_append (occ p) t (x ∷ []) in let f = load_append (inner p) t (x ∷ []) in (omega arith, omega arith)

  met_bounded : (n : PNode) (x : Item) (R : List Root) (q t : List Item) (B : List Held) (k : ℕ) → node_of p x.node ≡ n → x.node < length p → Bounded p R (x ∷ q) t B k (met n x R q t B k)
  unfolding met
  met_bounded (var v) x R q t B k e h = let w = met_work x v R q t k (stands (var v) h e) in var_bounded v (reg_of B v) x.reg R (x ∷ q) t q t B k w.0 w.1
  met_bounded (op f cs) x R q t B k e h = let w = wait_work x R q t k in record { code = let z = w.0 in omega arith; vars = let z = w.0 in omega arith; regs = w.1 }

  took_work : {x : Item} {l t : List Item} (R : List Root) (k : ℕ) → Took x l t → x.node < length p
      → (work p R [] t + 1 ≤ work p R [] l) × (width p R [] t k ≤ width p R [] l k)
  unfolding work width load inner
  took_work {x} R k w h = let e = load_took (occ p) w in let f = load_took (inner p) w in let i = occ_pos o x.node h in (omega arith, unfold inner in omega arith)

  spread_work : {x : Item} {l t : List Item} (f : ℕ) (cs : List ℕ) (R : List Root) (k : ℕ) → Took x l t → Stands p x.node (op f cs) → All (λ (x : Item). x.node < length p) (number k cs)
      → (work p R (number k cs) t + 1 ≤ work p R [] l) × (width p R (number k cs) t (k + length cs) ≤ width p R [] l k)
  unfolding work width load
  spread_work {x} f cs R k w s a =
      let e = load_took (occ p) w in let g = load_took (inner p) w in let i = occ_op o s in let n = load_number p k cs in let m = inner_number o k cs a in
      (omega arith, unfold inner in omega arith)

  taken_bounded : (n : PNode) (x : Item) (R : List Root) (l t : List Item) (B : List Held) (k : ℕ) → node_of p x.node ≡ n → Took x l t → Sane p R [] l
      → All (λ (x : Item). x.node < length p) (taken p n x R t B k).to.meet → Bounded p R [] l B k (taken p n x R t B k)
  unfolding taken
  taken_bounded (var v) x R l t B k e w sane after = let (h, a) = took_all w sane.todo in let z = took_work R k w h in var_bounded v (reg_of B v) x.reg R [] l [] t B k z.0 z.1
  taken_bounded (op f cs) x R l t B k e w sane after = go (and (is_ground p B x.node) (not (is_leaf cs))) after
    where
      in_p : x.node < length p
      in_p = (took_all w sane.todo).0

      pick : Bool → Step
      pick b = cond b (step (lookat (length R) x.node x.reg ∷ []) (state R [] t B k)) (step (bind (length R) x.node f (length cs) x.reg ∷ []) (state R (number k cs) t B (k + length cs)))

      go : (b : Bool) → All (λ (x : Item). x.node < length p) (pick b).to.meet → Bounded p R [] l B k (pick b)
      go true a = let z = took_work R k w in_p in let y = z.0 in record { code = omega arith; vars = omega arith; regs = z.1 }
      go false a = let z = spread_work f cs R k w (stands (op f cs) in_p e) a in let y = z.0 in record { code = omega arith; vars = omega arith; regs = z.1 }

  enter_work : (x : PNode) (q : Root) (R : List Root) (k : ℕ) → node_of p q.top ≡ x → q.top < length p
      → (work p R [] (item q.top (reg k) ∷ []) + 1 ≤ work p (q ∷ R) [] []) × (width p R [] (item q.top (reg k) ∷ []) (suc k) ≤ width p (q ∷ R) [] [] k)
  unfolding work width load root_occ inner
  enter_work x q R k e h = let i = occ_pos o q.top h in (omega arith, omega arith)

  lone_work : (q : Root) (R : List Root) (k : ℕ) → q.top < length p → (work p R [] [] + 2 ≤ work p (q ∷ R) [] []) × (width p R [] [] (suc k) ≤ width p (q ∷ R) [] [] k)
  unfolding work width load root_occ
  lone_work q R k h = let i = occ_pos o q.top h in (omega arith, omega arith)

  join_work : (q : Root) (R : List Root) (j : Reg) (k : ℕ) → (work p R (item q.top j ∷ []) [] ≤ work p (q ∷ R) [] []) × (width p R (item q.top j ∷ []) [] k ≤ width p (q ∷ R) [] [] k)
  unfolding work width load root_occ inner
  join_work q R j k = (omega arith, omega arith)

  -- a binder adds one variable at the most
  once_more : (v : ℕ) (r : Reg) (s : Option Reg) (B : List Held) → length (bind_once v r s B) ≤ length B + 1
  unfolding bind_once
  once_more v r None B = let e = one_more B (held v r) in omega arith
  once_more v r (Some j) B = omega arith

  -- a root met at a new register, before its Scan is counted
  pub record EnterBounded (q : Root) (R : List Root) (B : List Held) (k : ℕ) (s : Step) : Type 0 where
    pub code : length s.emits + 1 + work p s.to.roots s.to.meet s.to.todo ≤ work p (q ∷ R) [] []
    pub vars : length s.to.binds + work p s.to.roots s.to.meet s.to.todo ≤ length B + work p (q ∷ R) [] []
    pub regs : width p s.to.roots s.to.meet s.to.todo s.to.next ≤ width p (q ∷ R) [] [] k

  pub enter_bounded : (x : PNode) (v : ℕ) (q : Root) (R : List Root) (B : List Held) (k : ℕ) → node_of p q.top ≡ x → q.top < length p
      → EnterBounded q R B k (entered v (reg k) (met x (item q.top (reg k)) R [] [] B (suc k)))
  unfolding entered met met_var
  enter_bounded (op f cs) v q R B k e h = let w = enter_work (op f cs) q R k e h in let y = w.0 in let z = once_more v (reg k) (reg_of B v) B in
      record { code = omega arith; vars = omega arith; regs = w.1 }
  enter_bounded (var u) v q R B k e h = go (reg_of B u)
    where
      go : (s : Option Reg) → EnterBounded q R B k (entered v (reg k) (met_var u (reg k) s R [] [] B (suc k)))
      go None = let w = lone_work q R k h in let y = w.0 in let z = once_more v (reg k) (reg_of (B ++ (held u (reg k) ∷ [])) v) (B ++ (held u (reg k) ∷ [])) in let l = one_more B (held u (reg k)) in
          record { code = omega arith; vars = omega arith; regs = w.1 }
      go (Some j) = let w = lone_work q R k h in let y = w.0 in let z = once_more v (reg k) (reg_of B v) B in
          record { code = omega arith; vars = omega arith; regs = w.1 }

  rooted_bounded : (n : PNode) (q : Root) (R : List Root) (B : List Held) (k : ℕ) → node_of p q.binder ≡ n → q.top < length p → (v : ℕ) → n ≡ var v → Bounded p (q ∷ R) [] [] B k (rooted p n q R B k)
  unfolding rooted joined after enter
  rooted_bounded (op f cs) q R B k e h v s = absurd (let z : ◌≡◌ {A = ℕ} 0 1 = cc in omega arith)
  rooted_bounded (var u) q R B k e h v s = go (reg_of B u)
    where
      go : (s : Option Reg) → Bounded p (q ∷ R) [] [] B k (joined p u s q R B k)
      go (Some j) = let w = join_work q R j k in let y = w.0 in record { code = omega arith; vars = omega arith; regs = w.1 }
      go None = let w = enter_bounded (node_of p q.top) u q R B k refl h in let y = w.code in let z = w.vars in record { code = omega arith; vars = z; regs = w.regs }

  pub bounded : (before : List Held → Item → Item → Bool) (R : List Root) (q t : List Item) (B : List Held) (k : ℕ) → Sane p R q t → Bounded p R q t B k (step_of p before R q t B k)
  unfolding step_of
  bounded before [] [] [] B k sane = record { code = omega arith; vars = omega arith; regs = omega arith }
  bounded before (r ∷ R) [] [] B k sane = go sane.roots
    where
      go : All (λ (r : Root). (v : ℕ) × Stands p r.binder (var v) × (r.top < length p)) (r ∷ R) → Bounded p (r ∷ R) [] [] B k (rooted p (node_of p r.binder) r R B k)
      go (cons h a) = rooted_bounded (node_of p r.binder) r R B k refl h.2 h.0 h.1.same
  bounded before R [] (x ∷ t) B k sane = taken_bounded _ (choose (before B) x t).took R (x ∷ t) (choose (before B) x t).left B k refl (choose_took (before B) x t) sane
      (stepped o before R [] (x ∷ t) B k sane).sane.meet
  bounded before R (x ∷ q) t B k sane = go sane.meet
    where
      go : All (λ (x : Item). x.node < length p) (x ∷ q) → Bounded p R (x ∷ q) t B k (met (node_of p x.node) x R q t B k)
      go (cons h a) = met_bounded _ x R q t B k refl h

  -- the whole program from a state
  pub run_bounded : (before : List Held → Item → Item → Bool) (f : ℕ) (s : State) → Sane p s.roots s.meet s.todo
      → (length (go p before f s).code ≤ work p s.roots s.meet s.todo) × (length (go p before f s).vars ≤ length s.binds + work p s.roots s.meet s.todo)
  unfolding go
  run_bounded before zero s sane = (omega arith, omega arith)
  run_bounded before (suc f) s sane =
      let t = step_of p before s.roots s.meet s.todo s.binds s.next in
      let b = bounded before s.roots s.meet s.todo s.binds s.next sane in
      let r = run_bounded before f t.to (stepped o before s.roots s.meet s.todo s.binds s.next sane).sane in
      let x = r.0 in let y = r.1 in let u = b.code in let v = b.vars in
      (rw length-append (omega arith), omega arith)
