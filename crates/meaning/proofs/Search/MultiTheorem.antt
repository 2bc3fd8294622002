-- The rows of a multipattern are the assignments that meet every pattern, each once. Assumes nothing.
use Rattle.std.proofs.Common.{ℕ, zero, suc, ◌+◌, ◌-◌, ◌<◌, ◌≡◌, Bool, true, false, ltb, sym, ◌∙◌, length-append, ltb-true, ltb-false, add-zero, zero-add, List, [], ◌∷◌, ◌++◌, map, Some}
use Rattle.std.proofs.Math.Path.{refl, ap}
use mathlib.Core.List.Memᴰ.{cast as mem-cast, not-nil}
use mathlib.Core.List.{Memᴰ as Mem}
use Rattle.std.proofs.Math.ListN.{length, length-map, get_or-append, get_or-map}
use Rattle.std.proofs.Math.Seq.{get_or-append-add}
use native.Mathlib.Omega.{arith}
use Rattle.meaning.specs.Lists.{All, nil, cons, NoDup, map_map, map_same, from_map}
use Rattle.meaning.specs.Graph.{Graph, ids, lookup, WellFormed}
use Rattle.meaning.specs.Pattern.{PNode, var, op, Pattern, node_of, kids_of, Ordered, root, Bound}
use Rattle.meaning.specs.Instance.{inst, all_some, Met, Meets}
use Rattle.meaning.specs.Program.{Held, vars, at, reg}
use Rattle.meaning.specs.Compiler.{Item, item, compile_from, Root, ahead, compile_roots}
use Rattle.meaning.specs.Matching.{run_of}
use Rattle.meaning.specs.Multi.{shift_node, flat, tops, compile_many, many_matches}
use Rattle.meaning.specs.Search.Listing.{Lists, shift}
use Rattle.meaning.specs.Search.Order.{Stands, stands, kid_of, Compiles, apart}
use Rattle.meaning.specs.Search.Solve.{Joined, Solves, Known}
use Rattle.meaning.proofs.Search.Central.{central}
use Rattle.meaning.proofs.Laws.Lookup.{reads}
use Rattle.meaning.specs.Laws.Instances.{means, inst_var, inst_op}
use Rattle.meaning.specs.Search.Compiled.{compile_roots_right}
use Rattle.meaning.proofs.Search.Theorem.{no_vars}

pub cast_stands : {p : Pattern} {i j : ℕ} {x y : PNode} → i ≡ j → x ≡ y → Stands p i x → Stands p j y
cast_stands e f s = record { inside = rw (← e) s.inside; same = rw (← e) (s.same ∙ f) }

-- the nodes of the patterns stand in P from a on
pub record Placed (P : Pattern) (a : ℕ) (m : List Bound) : Type 0 where
  pub place : (n : ℕ) → n < length (flat a m) → Stands P (a + n) (node_of (flat a m) n)

module _ {P : Pattern} {a : ℕ} {b : Bound} {m : List Bound} (l : Placed P a (b ∷ m)) where
  pub placed_binder : Stands P a (var b.binder)
  unfolding flat
  placed_binder = cast_stands (add-zero a) refl (l.place 0 (omega arith))

  pub placed_node : (n : ℕ) → n < length b.pat → Stands P (suc a + n) (shift_node (suc a) (node_of b.pat n))
  unfolding flat shift_node
  placed_node n h =
      let i : n < length (map (shift_node (suc a)) b.pat) = rw length-map h in
      let e : node_of (map (shift_node (suc a)) b.pat ++ flat (suc a + length b.pat) m) n ≡ shift_node (suc a) (node_of b.pat n)
      = get_or-append (map (shift_node (suc a)) b.pat) (flat (suc a + length b.pat) m) (var 0) n i ∙ get_or-map (shift_node (suc a)) b.pat n (var 0) in
      cast_stands (omega arith) e (l.place (suc n) (rw (length-append, length-map) (omega arith)))

  pub placed_rest : Placed P (suc a + length b.pat) m
  unfolding flat
  placed_rest = record {
    place = λ n h.
        let e : node_of (map (shift_node (suc a)) b.pat ++ flat (suc a + length b.pat) m) (length b.pat + n) ≡ node_of (flat (suc a + length b.pat) m) n
        = ap (λ k. node_of (map (shift_node (suc a)) b.pat ++ flat (suc a + length b.pat) m) (k + n)) (sym (length-map b.pat (shift_node (suc a))))
        ∙ get_or-append-add (map (shift_node (suc a)) b.pat) (flat (suc a + length b.pat) m) n (var 0) in
        cast_stands (omega arith) e (l.place (suc (length b.pat + n)) (rw (length-append, length-map) (omega arith)));
  }

shift_kids : {c : ℕ} (a : ℕ) (x : PNode) → Mem c (kids_of (shift_node a x)) → (d : ℕ) × Mem d (kids_of x) × (c ≡ a + d)
unfolding shift_node kids_of
shift_kids a (var v) m = absurd (not-nil m)
shift_kids a (op o cs) m = from_map (λ d. a + d) cs m

shifted_at : (a : ℕ) (p : Pattern) (n : ℕ) → node_of (map (shift_node a) p) n ≡ shift_node a (node_of p n)
unfolding shift_node
shifted_at a p n = get_or-map (shift_node a) p n (var 0)

-- children stand before their parents in the whole list
flat_below : (a : ℕ) (m : List Bound) → All (λ b. Ordered b.pat) m → (n c : ℕ) → n < length (flat a m) → Mem c (kids_of (node_of (flat a m) n)) → c < a + n
unfolding flat kids_of
flat_below a [] o n c h k = absurd (omega arith)
flat_below a (b ∷ m) o zero c h k = absurd (not-nil k)
flat_below a (b ∷ m) (cons s o) (suc n) c h k = go (ltb n (length b.pat)) refl (λ i j r. flat_below (suc a + length b.pat) m o i c j r)
  where
    xs : Pattern
    xs = map (shift_node (suc a)) b.pat

    rest : Pattern
    rest = flat (suc a + length b.pat) m

    go : (t : Bool) → ltb n (length b.pat) ≡ t → ((i : ℕ) → i < length rest → Mem c (kids_of (node_of rest i)) → c < suc a + length b.pat + i) → c < a + suc n
    go true e ih =
        let l = ltb-true n (length b.pat) e in
        let i : n < length xs = rw length-map l in
        let (d, j, f) = shift_kids (suc a) (node_of b.pat n) (rw (get_or-append xs rest (var 0) n i ∙ shifted_at (suc a) b.pat n) at k) in
        let z = s.below n d l j in omega arith
    go false e ih =
        let l = ltb-false n (length b.pat) e in
        let i = n - length b.pat in
        let split : n ≡ length xs + i = rw length-map (omega arith) in
        let j : i < length rest = let z : suc n < suc (length xs + length rest) = rw (← length-append) h in let y = length-map b.pat (shift_node (suc a)) in omega arith in
        let z = ih i j (rw (ap (λ (x : ℕ). node_of (xs ++ rest) x) split ∙ get_or-append-add xs rest i (var 0)) at k) in omega arith

-- a node of a pattern has the same instance in the whole list
same_inst : (g : Graph) {P q : Pattern} (O : Ordered P) (o : Ordered q) (a : ℕ) → ((n : ℕ) → n < length q → Stands P (a + n) (shift_node a (node_of q n)))
    → (σ : ℕ → ℕ) (f n : ℕ) → n < f → n < length q → inst g P σ (a + n) ≡ inst g q σ n
unfolding shift_node
same_inst g O o a l σ zero n i h = absurd (omega arith)
same_inst g {P} {q} O o a l σ (suc f) n i h = go (node_of q n) refl (λ c j k. same_inst g O o a l σ f c j k)
  where
    go : (x : PNode) → node_of q n ≡ x → ((c : ℕ) → c < f → c < length q → inst g P σ (a + c) ≡ inst g q σ c) → inst g P σ (a + n) ≡ inst g q σ n
    go (var v) e ih = inst_var O g σ (a + n) v (cast_stands refl (ap (shift_node a) e) (l n h)) ∙ sym (inst_var o g σ n v (stands (var v) h e))
    go (op k cs) e ih =
        inst_op O g σ (a + n) k (map (λ c. a + c) cs) (cast_stands refl (ap (shift_node a) e) (l n h))
        ∙ ap (λ os. all_some os (lookup g k)) (sym (map_map (inst g P σ) (λ c. a + c) cs)
        ∙ map_same (λ c. inst g P σ (a + c)) (inst g q σ) cs (λ c m. let z = o.below n c h (kid_of e m) in ih c (omega arith) (omega arith)))
        ∙ sym (inst_op o g σ n k cs (stands (op k cs) h e))

pub flat_ordered : (b : Bound) (m : List Bound) → All (λ b. Ordered b.pat) (b ∷ m) → Ordered (flat 0 (b ∷ m))
flat_ordered b m o = record { rooted = long; below = λ n c h k. rw zero-add at (flat_below 0 (b ∷ m) o n c h k) }
  where
    long : 0 < length (flat 0 (b ∷ m))
    long = unfold flat in omega arith

pub placed_all : (m : List Bound) → Placed (flat 0 m) 0 m
placed_all m = record { place = λ n h. cast_stands (sym (zero-add n)) refl (stands (node_of (flat 0 m) n) h refl) }

-- the binder's node and the root's, in the whole list
abbrev pub root_of : ℕ → Bound → Root
root_of a b = record { binder = a; top = a + length b.pat }

module _ (g : Graph) {P : Pattern} (O : Ordered P) (σ : ℕ → ℕ) where
  root_inst : {a : ℕ} {b : Bound} {m : List Bound} → Placed P a (b ∷ m) → Ordered b.pat → inst g P σ (a + length b.pat) ≡ inst g b.pat σ (root b.pat)
  root_inst {a} {b} l o =
      let r = o.rooted in
      let e : a + length b.pat ≡ suc a + (length b.pat - 1) = omega arith in
      rw e (same_inst g O o (suc a) (placed_node l) σ (length b.pat) (length b.pat - 1) (omega arith) (omega arith))

  joined_met : {a : ℕ} {b : Bound} {m : List Bound} → Placed P a (b ∷ m) → Ordered b.pat → Joined g P σ (root_of a b) → Met g σ b
  joined_met {a} {b} l o J =
      let e : Some (σ b.binder) ≡ Some J.class = sym (inst_var O g σ a b.binder (placed_binder l)) ∙ J.binder in
      let f : σ b.binder ≡ J.class = cc in
      record { known = mem-cast f J.known; same = sym (root_inst l o) ∙ J.top ∙ ap Some (sym f) }

  met_joined : {a : ℕ} {b : Bound} {m : List Bound} → Placed P a (b ∷ m) → Ordered b.pat → Met g σ b → Joined g P σ (root_of a b)
  met_joined {a} {b} l o M = record { class = σ b.binder; known = M.known; binder = inst_var O g σ a b.binder (placed_binder l); top = root_inst l o ∙ M.same }

  all_met : {a : ℕ} {m : List Bound} → Placed P a m → All (λ b. Ordered b.pat) m → All (λ q. Joined g P σ q) (tops a m) → All (Met g σ) m
  unfolding tops
  all_met l nil j = nil
  all_met {a} l (cons {x = b} {l = m} o os) j = go j (λ k. all_met {a = suc a + length b.pat} (placed_rest l) os k)
    where
      go : All (λ q. Joined g P σ q) (root_of a b ∷ tops (suc a + length b.pat) m) → (All (λ q. Joined g P σ q) (tops (suc a + length b.pat) m) → All (Met g σ) m) → All (Met g σ) (b ∷ m)
      go (cons J k) f = cons (joined_met l o J) (f k)

  all_joined : {a : ℕ} {m : List Bound} → Placed P a m → All (λ b. Ordered b.pat) m → All (Met g σ) m → All (λ q. Joined g P σ q) (tops a m)
  unfolding tops
  all_joined l nil nil = nil
  all_joined {a} l (cons {x = b} o os) (cons M k) = cons (met_joined l o M) (all_joined {a = suc a + length b.pat} (placed_rest l) os k)

-- every binder is a variable and every root a node
sane_tops : {P : Pattern} {a : ℕ} {m : List Bound} → Placed P a m → All (λ b. Ordered b.pat) m → All (λ (r : Root). (v : ℕ) × Stands P r.binder (var v) × (r.top < length P)) (tops a m)
unfolding tops
sane_tops l nil = nil
sane_tops {P} {a} l (cons {x = b} {l = m} o os) = cons {x = root_of a b} (b.binder, placed_binder l, top_in) (sane_tops {a = suc a + length b.pat} (placed_rest l) os)
  where
    top_in : a + length b.pat < length P
    top_in = let r = o.rooted in let z = (placed_node l (length b.pat - 1) (omega arith)).inside in omega arith

-- the whole list, its order and its places
module _ (b : Bound) (m : List Bound) (o : All (λ b. Ordered b.pat) (b ∷ m)) where
  pub many_compiles : (before : List Held → Item → Item → Bool)
      → Compiles (flat 0 (b ∷ m)) (tops (1 + length b.pat) m) (item (0 + length b.pat) (reg 0) ∷ item 0 (reg 0) ∷ []) [] 1 (compile_roots before (flat 0 (b ∷ m)) (tops 0 (b ∷ m))).code (compile_roots before (flat 0 (b ∷ m)) (tops 0 (b ∷ m))).vars
  unfolding compile_roots tops flat
  many_compiles before = go o (sane_tops (placed_all (b ∷ m)) o)
    where
      go : All (λ b. Ordered b.pat) (b ∷ m) → All (λ (r : Root). (v : ℕ) × Stands (flat 0 (b ∷ m)) r.binder (var v) × (r.top < length (flat 0 (b ∷ m)))) (tops 0 (b ∷ m))
          → Compiles (flat 0 (b ∷ m)) (tops (1 + length b.pat) m) (item (0 + length b.pat) (reg 0) ∷ item 0 (reg 0) ∷ []) [] 1 (compile_from before (flat 0 (b ∷ m)) (var b.binder) (root_of 0 b) (tops (1 + length b.pat) m)).code (compile_from before (flat 0 (b ∷ m)) (var b.binder) (root_of 0 b) (tops (1 + length b.pat) m)).vars
      go (cons s os) (cons h a) = compile_roots_right (flat_ordered b m (cons s os)) before (root_of 0 b) (tops (1 + length b.pat) m) b.binder (placed_binder (placed_all (b ∷ m))) h.2 a

-- for any choice of the next item
pub many_matched : {g : Graph} → WellFormed g → (b : Bound) (m : List Bound) → All (λ b. Ordered b.pat) (b ∷ m) → (before : List Held → Item → Item → Bool) (c : ℕ) → Mem c (ids g)
    → Lists (Known g) (vars (compile_roots before (flat 0 (b ∷ m)) (tops 0 (b ∷ m))).vars) (run_of g (flat 0 (b ∷ m)) (compile_roots before (flat 0 (b ∷ m)) (tops 0 (b ∷ m))) c) (Meets g b m c)
unfolding run_of
many_matched {g} w b m (cons o os) before c k = shift
    (central (reads g w) (means O g) (many_compiles b m (cons o os) before) (c ∷ []) (record { long = refl; known = cons k nil })
    (record { items = cons {x = item (0 + length b.pat) (reg 0)} (omega arith) (cons {x = item 0 (reg 0)} (omega arith) nil); binds = nil; apart = no_vars }))
    (λ σ s. up σ s.items s.roots) (λ σ s. down σ s.first s.each)
  where
    P : Pattern
    P = flat 0 (b ∷ m)

    O : Ordered P
    O = flat_ordered b m (cons o os)

    l : Placed P 0 (b ∷ m)
    l = placed_all (b ∷ m)

    up : (σ : ℕ → ℕ) → All (λ x. inst g P σ x.node ≡ Some (at (c ∷ []) x.reg)) (item (0 + length b.pat) (reg 0) ∷ item 0 (reg 0) ∷ []) → All (λ q. Joined g P σ q) (tops (1 + length b.pat) m) → Meets g b m c σ
    up σ (cons i (cons j nil)) a =
        let e : Some (σ b.binder) ≡ Some c = sym (inst_var O g σ 0 b.binder (placed_binder l)) ∙ j in
        record { first = cc; each = cons (joined_met g O σ l o (record { class = c; known = k; binder = j; top = i })) (all_met g O σ (placed_rest l) os a) }

    down : (σ : ℕ → ℕ) → σ b.binder ≡ c → All (Met g σ) (b ∷ m) → Solves g P (tops (1 + length b.pat) m) (item (0 + length b.pat) (reg 0) ∷ item 0 (reg 0) ∷ []) [] (c ∷ []) σ
    down σ e (cons M a) = record {
      roots = all_joined g O σ (placed_rest l) os a;
      items = cons {x = item (0 + length b.pat) (reg 0)} (root_inst g O σ l o ∙ M.same ∙ ap Some e) (cons {x = item 0 (reg 0)} (inst_var O g σ 0 b.binder (placed_binder l) ∙ ap Some e) nil);
      binds = nil;
    }

-- DEMAND 2 for multipatterns
pub many_right : {g : Graph} → WellFormed g → (b : Bound) (m : List Bound) → All (λ b. Ordered b.pat) (b ∷ m) → (c : ℕ) → Mem c (ids g)
    → Lists (Known g) (vars (compile_many (b ∷ m)).vars) (many_matches g (b ∷ m) c) (Meets g b m c)
unfolding many_matches compile_many
many_right w b m o c k = many_matched w b m o (ahead (flat 0 (b ∷ m))) c k

pub many_vars_once : (b : Bound) (m : List Bound) → All (λ b. Ordered b.pat) (b ∷ m) → NoDup (vars (compile_many (b ∷ m)).vars)
unfolding compile_many
many_vars_once b m o = apart (many_compiles b m o (ahead (flat 0 (b ∷ m)))) no_vars
