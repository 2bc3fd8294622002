-- Each step of the compiler is a step of some order, and there is less to do after it. Assumes nothing.
use Rattle.std.specs.Prelude.{ℕ, zero, suc, ◌+◌, ◌<◌, ◌≤◌, ◌-◌, Bool, true, false, cond, not, get_or, take, drop, Option, None, Some}
use Rattle.std.proofs.Math.Path.{◌≡◌, refl}
use Rattle.std.proofs.Common.{ap}
use mathlib.Core.List.{List, [], ◌∷◌, ◌++◌, Memᴰ as Mem}
use mathlib.Core.List.Memᴰ.{append_cases as mem-cases, append_left as mem-left, append_right as mem-right, cases_cons, eq_of_singleton as only, head, not-nil, tail}
use Rattle.std.proofs.Math.Logic.{⊎_elim}
use Rattle.std.proofs.Math.ListN.{length}
use native.Mathlib.Omega.{arith}
use Rattle.meaning.specs.declared.Reg.{Reg}
use Rattle.meaning.specs.Tests.{and, and_left}
use Rattle.meaning.specs.Lists.{All, nil, cons, Took, here, there, took_all, all_append}
use Rattle.meaning.specs.Pattern.{PNode, var, op, Pattern, node_of, Ordered, free}
use Rattle.meaning.specs.Program.{Instr, bind, lookat, Held, held, reg}
use Rattle.meaning.specs.Compiler.{Item, item, Root, Step, step, state, reg_of, is_ground, best, pick_at, choose, number, is_leaf, met_var, met, taken, bind_once, entered, enter, after, joined, rooted, step_of}
use Rattle.meaning.specs.Search.Order.{Stands, Compiles, new, again, same, look, spread, mix, join, scans, stands, kid_of}
use Rattle.meaning.specs.Laws.Instances.{occ_op}
use Rattle.meaning.specs.Search.Bindings.{reg_mem, reg_none, ground_all, mem_var}
use Rattle.meaning.specs.Search.Measure.{measure, occ_pos, less_wait, less_met, less_took, less_spread, less_join, less_none, less_enter, less_stay}

-- the item at a place is taken out
took_at : (d : Item) (l : List Item) (b : ℕ) → b < length l → Took (get_or l b d) l (take b l ++ drop (suc b) l)
took_at d [] b h = absurd (omega arith)
took_at d (x ∷ l) zero h = here
took_at d (x ∷ l) (suc b) h = there (took_at d l b (omega arith))

best_within : (before : Item → Item → Bool) (d : Item) (l : List Item) (n : ℕ) → 0 < n → best before d l n < n
unfolding best
best_within before d l zero h = absurd (omega arith)
best_within before d l (suc zero) h = go (before (get_or l 0 d) (get_or l 0 d))
  where
    go : (b : Bool) → cond b 0 0 < 1
    go true = omega arith
    go false = omega arith
best_within before d l (suc (suc n)) h = go (before (get_or l (suc n) d) (get_or l (best before d l (suc n)) d)) (best_within before d l (suc n) (omega arith))
  where
    go : (b : Bool) → best before d l (suc n) < suc n → cond b (suc n) (best before d l (suc n)) < suc (suc n)
    go true k = omega arith
    go false k = omega arith

-- the chosen item is taken out
pub choose_took : (before : Item → Item → Bool) (x : Item) (l : List Item) → Took (choose before x l).took (x ∷ l) (choose before x l).left
unfolding choose pick_at
choose_took before x l = took_at x (x ∷ l) (best before x (x ∷ l) (suc (length l))) (best_within before x (x ∷ l) (suc (length l)) (omega arith))

-- roots and items are nodes of the pattern, binders are variables
pub record Sane (p : Pattern) (R : List Root) (q t : List Item) : Type 0 where
  pub roots : All (λ (r : Root). (v : ℕ) × Stands p r.binder (var v) × (r.top < length p)) R
  pub meet : All (λ (x : Item). x.node < length p) q
  pub todo : All (λ (x : Item). x.node < length p) t

-- what holds of a step
pub record Stepped (p : Pattern) (R : List Root) (q t : List Item) (B : List Held) (k : ℕ) (s : Step) : Type 0 where
  pub leads : (is : List Instr) (H : List Held) → Compiles p s.to.roots (s.to.meet ++ s.to.todo) s.to.binds s.to.next is H
      → Compiles p R (q ++ t) B k (s.emits ++ is) H
  pub sane : Sane p s.to.roots s.to.meet s.to.todo
  pub less : measure p s.to.roots s.to.meet s.to.todo ≤ measure p R q t - 1

-- what holds of a root met at a new register
pub record Entered (p : Pattern) (q : Root) (R : List Root) (B : List Held) (k : ℕ) (s : Step) : Type 0 where
  pub leads : (is : List Instr) (H : List Held) → Compiles p s.to.roots (s.to.meet ++ s.to.todo) s.to.binds s.to.next is H
      → Compiles p R (item q.top (reg k) ∷ item q.binder (reg k) ∷ []) B (suc k) (s.emits ++ is) H
  pub sane : Sane p s.to.roots s.to.meet s.to.todo
  pub less : measure p s.to.roots s.to.meet s.to.todo ≤ measure p (q ∷ R) [] [] - 1

number_sane : (p : Pattern) (cs : List ℕ) (k : ℕ) → ((c : ℕ) → Mem c cs → c < length p) → All (λ (x : Item). x.node < length p) (number k cs)
unfolding number
number_sane p [] k f = nil
number_sane p (c ∷ cs) k f = cons {x = item c (reg k)} (f c (head refl)) (number_sane p cs (suc k) (λ d m. f d (tail m)))

module _ {p : Pattern} (o : Ordered p) where
  var_stepped : (v : ℕ) (s : Option Reg) (x : Item) (R : List Root) (q₀ t₀ q t : List Item) (B : List Held) (k : ℕ) → reg_of B v ≡ s → Stands p x.node (var v)
      → Took x (q₀ ++ t₀) (q ++ t) → Sane p R q t → measure p R q t < measure p R q₀ t₀ → Stepped p R q₀ t₀ B k (met_var v x.reg s R q t B k)
  unfolding met_var
  var_stepped v None x R q₀ t₀ q t B k e st k₀ sane l = record { leads = λ is H d. new st k₀ (reg_none B v e) d; sane = sane; less = omega arith }
  var_stepped v (Some j) x R q₀ t₀ q t B k e st k₀ sane l = record { leads = λ is H d. again st k₀ (reg_mem B v j e) d; sane = sane; less = omega arith }

  met_stepped : (n : PNode) (x : Item) (R : List Root) (q t : List Item) (B : List Held) (k : ℕ) → node_of p x.node ≡ n → Sane p R (x ∷ q) t → Stepped p R (x ∷ q) t B k (met n x R q t B k)
  unfolding met
  met_stepped (var v) x R q t B k e sane = go sane.meet
    where
      go : All (λ (x : Item). x.node < length p) (x ∷ q) → Stepped p R (x ∷ q) t B k (met_var v x.reg (reg_of B v) R q t B k)
      go (cons h a) =
          var_stepped v (reg_of B v) x R (x ∷ q) t q t B k refl (stands (var v) h e) here (record { roots = sane.roots; meet = a; todo = sane.todo }) (less_met p R x q t (occ_pos o x.node h))
  met_stepped (op f cs) x R q t B k e sane = go sane.meet
    where
      forth : (y : Item) → Mem y (x ∷ (q ++ t)) → Mem y (q ++ (t ++ (x ∷ [])))
      forth y m = ⊎_elim (λ e. mem-right q (mem-right t (head e)))
          (λ r. ⊎_elim (λ a. mem-left (t ++ (x ∷ [])) a) (λ b. mem-right q (mem-left (x ∷ []) b)) (mem-cases q r)) (cases_cons m)

      back : (y : Item) → Mem y (q ++ (t ++ (x ∷ []))) → Mem y (x ∷ (q ++ t))
      back y m = ⊎_elim (λ a. tail (mem-left t a)) (λ r. ⊎_elim (λ b. tail (mem-right q b)) (λ z. ⊎_elim (λ e. head e) (λ i. absurd (not-nil i)) (cases_cons z)) (mem-cases t r)) (mem-cases q m)

      go : All (λ (x : Item). x.node < length p) (x ∷ q) → Stepped p R (x ∷ q) t B k (met (op f cs) x R q t B k)
      go (cons h a) = record {
        leads = λ is H d. mix forth back d;
        sane = record { roots = sane.roots; meet = a; todo = all_append sane.todo (cons h nil) };
        less = less_wait p R x q t (occ_pos o x.node h);
      }

  -- an item that waited
  taken_stepped : (n : PNode) (x : Item) (R : List Root) (l t : List Item) (B : List Held) (k : ℕ) → node_of p x.node ≡ n → Took x l t → Sane p R [] l → Stepped p R [] l B k (taken p n x R t B k)
  unfolding taken
  taken_stepped (var v) x R l t B k e w sane = let (h, a) = took_all w sane.todo in
      var_stepped v (reg_of B v) x R [] l [] t B k refl (stands (var v) h e) w (record { roots = sane.roots; meet = nil; todo = a }) (less_took p R w (occ_pos o x.node h))
  taken_stepped (op f cs) x R l t B k e w sane = go (and (is_ground p B x.node) (not (is_leaf cs))) refl
    where
      in_p : x.node < length p
      in_p = (took_all w sane.todo).0

      rest : All (λ (x : Item). x.node < length p) t
      rest = (took_all w sane.todo).1

      go : (b : Bool) → and (is_ground p B x.node) (not (is_leaf cs)) ≡ b
          → Stepped p R [] l B k (cond b (step (lookat (length R) x.node x.reg ∷ []) (state R [] t B k)) (step (bind (length R) x.node f (length cs) x.reg ∷ []) (state R (number k cs) t B (k + length cs))))
      go true g = record {
        leads = λ is H d. look w (ground_all p B x.node (and_left _ _ g)) d;
        sane = record { roots = sane.roots; meet = nil; todo = rest };
        less = let h = less_took p R w (occ_pos o x.node in_p) in omega arith;
      }
      go false g = record {
        leads = λ is H d. spread (stands (op f cs) in_p e) w d;
        sane = record { roots = sane.roots; meet = number_sane p cs k (λ c m. kid_in c m); todo = rest };
        less = less_spread p R k cs w (occ_op o (stands (op f cs) in_p e));
      }
        where
          kid_in : (c : ℕ) → Mem c cs → c < length p
          kid_in c m = let h = o.below x.node c in_p (kid_of e m) in omega (arith, in_p)

  -- the binder is bound, or its root was that variable
  bind_right : (v : ℕ) (r : Reg) {n k : ℕ} {B H : List Held} {R : List Root} {l t : List Item} {is : List Instr} (s : Option Reg) → reg_of B v ≡ s → ((j : Reg) → reg_of B v ≡ Some j → Mem (held v r) B)
      → Stands p n (var v) → Took (item n r) l t → Compiles p R t (bind_once v r s B) k is H → Compiles p R l B k is H
  unfolding bind_once
  bind_right v r {B} None e f st w d = new st w (reg_none B v e) d
  bind_right v r (Some j) e f st w d = same st w (f j e) d

  pub enter_stepped : (x : PNode) (v : ℕ) (q : Root) (R : List Root) (B : List Held) (k : ℕ) → node_of p q.top ≡ x → q.top < length p → Stands p q.binder (var v) → reg_of B v ≡ None
      → All (λ (r : Root). (v : ℕ) × Stands p r.binder (var v) × (r.top < length p)) R → Entered p q R B k (entered v (reg k) (met x (item q.top (reg k)) R [] [] B (suc k)))
  unfolding entered met met_var
  enter_stepped (op f cs) v q R B k e h st free a = record {
    leads = λ is H d. bind_right v (reg k) (reg_of B v) refl (λ j g. absurd (let z : ◌≡◌ {A = ℕ} 0 1 = cc in omega arith)) st (there here) d;
    sane = record { roots = a; meet = nil; todo = cons {x = item q.top (reg k)} h nil };
    less = less_enter p q R (reg k);
  }
  enter_stepped (var u) v q R B k e h st free a = go (reg_of B u) refl
    where
      go : (s : Option Reg) → reg_of B u ≡ s → Entered p q R B k (entered v (reg k) (met_var u (reg k) s R [] [] B (suc k)))
      go (Some j) g = record {
        leads = λ is H d. again (stands (var u) h e) here (reg_mem B u j g) (bind_right v (reg k) (reg_of B v) refl (λ j g. absurd (let z : ◌≡◌ {A = ℕ} 0 1 = cc in omega arith)) st here d);
        sane = record { roots = a; meet = nil; todo = nil };
        less = less_none p q R;
      }
      go None g = record {
        leads = λ is H d. new (stands (var u) h e) here (reg_none B u g) (bind_right v (reg k) (reg_of (B ++ (held u (reg k) ∷ [])) v) refl held_at st here d);
        sane = record { roots = a; meet = nil; todo = nil };
        less = less_none p q R;
      }
        where
          held_at : (j : Reg) → reg_of (B ++ (held u (reg k) ∷ [])) v ≡ Some j → Mem (held v (reg k)) (B ++ (held u (reg k) ∷ []))
          held_at j i = ⊎_elim (λ m. absurd (reg_none B v free (mem_var m))) (λ m. mem-right B (head (ap (λ (b : Held). held b.var (reg k)) (only m)))) (mem-cases B (reg_mem (B ++ (held u (reg k) ∷ [])) v j i))

  -- a pattern of a multipattern
  rooted_stepped : (n : PNode) (q : Root) (R : List Root) (B : List Held) (k : ℕ) → node_of p q.binder ≡ n → Sane p (q ∷ R) [] [] → Stepped p (q ∷ R) [] [] B k (rooted p n q R B k)
  unfolding rooted joined after enter
  rooted_stepped (op f cs) q R B k e sane = absurd (go sane.roots)
    where
      go : All (λ (r : Root). (v : ℕ) × Stands p r.binder (var v) × (r.top < length p)) (q ∷ R) → ⊥
      go (cons h a) = let f = h.1.same in let z : ◌≡◌ {A = ℕ} 0 1 = cc in omega arith
  rooted_stepped (var v) q R B k e sane = go sane.roots (reg_of B v) refl
    where
      go : All (λ (r : Root). (v : ℕ) × Stands p r.binder (var v) × (r.top < length p)) (q ∷ R) → (s : Option Reg) → reg_of B v ≡ s → Stepped p (q ∷ R) [] [] B k (joined p v s q R B k)
      go (cons h a) (Some j) g = record {
        leads = λ is H d. join (stands (var v) h.1.inside e) (reg_mem B v j g) d;
        sane = record { roots = a; meet = cons {x = item q.top j} h.2 nil; todo = nil };
        less = less_join p q R j;
      }
      go (cons h a) None g = let s = enter_stepped (node_of p q.top) v q R B k refl h.2 (stands (var v) h.1.inside e) g a in
          record { leads = λ is H d. scans (s.leads is H d); sane = s.sane; less = s.less }

  pub stepped : (before : List Held → Item → Item → Bool) (R : List Root) (q t : List Item) (B : List Held) (k : ℕ) → Sane p R q t → Stepped p R q t B k (step_of p before R q t B k)
  unfolding step_of
  stepped before [] [] [] B k sane = record { leads = λ is H d. d; sane = sane; less = less_stay p }
  stepped before (r ∷ R) [] [] B k sane = rooted_stepped (node_of p r.binder) r R B k refl sane
  stepped before R [] (x ∷ t) B k sane = taken_stepped _ (choose (before B) x t).took R (x ∷ t) (choose (before B) x t).left B k refl (choose_took (before B) x t) sane
  stepped before R (x ∷ q) t B k sane = met_stepped _ x R q t B k refl sane
