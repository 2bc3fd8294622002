-- The variables of a multipattern's rows are its binders and its patterns' variables. Assumes nothing.
use Rattle.std.proofs.Common.{ℕ, zero, suc, ◌+◌, ◌-◌, ◌<◌, ◌≡◌, List, [], ◌∷◌, map, ◌⊎◌, ◌↔◌, sym, ap, ◌∙◌, arith}
use Rattle.std.proofs.Math.Path.{refl, subst}
use mathlib.Core.List.Memᴰ.{cases_cons, eq_of_singleton as only, head, not-nil, tail}
use mathlib.Core.List.{Memᴰ as Mem}
use Rattle.std.proofs.Math.Logic.{inl, inr, ⊎_elim}
use Rattle.std.proofs.Math.ListN.{length}
use Rattle.meaning.specs.Lists.{All, nil, cons}
use Rattle.meaning.specs.Pattern.{PNode, var, op, Pattern, node_of, Ordered, root, free, union, unions, Bound}
use Rattle.meaning.specs.Program.{vars, reg}
use Rattle.meaning.specs.Compiler.{item, Root, ahead}
use Rattle.meaning.specs.Multi.{shift_node, flat, tops, compile_many}
use Rattle.meaning.specs.Search.Order.{Stands, stands, kid_of}
use Rattle.meaning.specs.Laws.Instances.{free_var, free_op, unions_same}
use Rattle.meaning.specs.Search.Covers.{From, bound, within, tops as from-top, binders, covers, covers_roots, sources, free_at, no_var}
use Rattle.meaning.proofs.Search.MultiTheorem.{cast_stands, Placed, placed_binder, placed_node, placed_rest, placed_all, flat_ordered, root_of, many_compiles}

unions_map : (f : ℕ → List ℕ) (h : ℕ → ℕ) (cs : List ℕ) → unions f (map h cs) ≡ unions (λ c. f (h c)) cs
unfolding unions
unions_map f h [] = refl
unions_map f h (c ∷ cs) = ap (λ l. union (f (h c)) l) (unions_map f h cs)

-- a node of a pattern has the same variables in the whole list
same_free : {P q : Pattern} (O : Ordered P) (o : Ordered q) (a : ℕ) → ((n : ℕ) → n < length q → Stands P (a + n) (shift_node a (node_of q n)))
    → (f n : ℕ) → n < f → n < length q → free P (a + n) ≡ free q n
unfolding shift_node
same_free O o a l zero n i h = absurd (omega arith)
same_free {P} {q} O o a l (suc f) n i h = go (node_of q n) refl (λ c j k. same_free O o a l f c j k)
  where
    go : (x : PNode) → node_of q n ≡ x → ((c : ℕ) → c < f → c < length q → free P (a + c) ≡ free q c) → free P (a + n) ≡ free q n
    go (var v) e ih = free_var O {n = a + n} {v = v} (cast_stands refl (ap (shift_node a) e) (l n h)) ∙ sym (free_var o (stands (var v) h e))
    go (op k cs) e ih =
        free_op O {n = a + n} {f = k} {cs = map (λ c. a + c) cs} (cast_stands refl (ap (shift_node a) e) (l n h))
        ∙ unions_map (free P) (λ c. a + c) cs
        ∙ unions_same (λ c. free P (a + c)) (free q) cs (λ c m. let z = o.below n c h (kid_of e m) in ih c (omega arith) (omega arith))
        ∙ sym (free_op o (stands (op k cs) h e))

-- a root of the whole list belongs to a pattern
record Belongs (P : Pattern) (q : Root) (b : Bound) : Type 0 where
  top : free P q.top ≡ free b.pat (root b.pat)
  binder : free P q.binder ≡ b.binder ∷ []

module _ {P : Pattern} (O : Ordered P) where
  belongs : {a : ℕ} {b : Bound} {m : List Bound} → Placed P a (b ∷ m) → Ordered b.pat → Belongs P (root_of a b) b
  belongs {a} {b} l o =
      let r = o.rooted in
      let e : a + length b.pat ≡ suc a + (length b.pat - 1) = omega arith in
      record { top = rw e (same_free O o (suc a) (placed_node l) (length b.pat) (length b.pat - 1) (omega arith) (omega arith)); binder = free_var O (placed_binder l) }

  bound_of : {a : ℕ} {m : List Bound} → Placed P a m → All (λ b. Ordered b.pat) m → (q : Root) → Mem q (tops a m) → (b : Bound) × Mem b m × Belongs P q b
  unfolding tops
  bound_of l nil q i = absurd (not-nil i)
  bound_of {a} l (cons {x = b} o os) q i = ⊎_elim (λ e. (b, head refl, subst (λ z. Belongs P z b) (sym e) (belongs l o)))
      (λ r. let (c, k, h) = bound_of {a = suc a + length b.pat} (placed_rest l) os q r in (c, tail k, h)) (cases_cons i)

  root_for : {a : ℕ} {m : List Bound} → Placed P a m → All (λ b. Ordered b.pat) m → (b : Bound) → Mem b m → (q : Root) × Mem q (tops a m) × Belongs P q b
  unfolding tops
  root_for l nil b i = absurd (not-nil i)
  root_for {a} l (cons {x = c} o os) b i = ⊎_elim (λ e. (root_of a c, head refl, subst (λ z. Belongs P (root_of a c) z) (sym e) (belongs l o)))
      (λ r. let (q, k, h) = root_for {a = suc a + length c.pat} (placed_rest l) os b r in (q, tail k, h)) (cases_cons i)

-- the variables of a multipattern
abbrev pub VarOf : List Bound → ℕ → Type 0
VarOf m v = (b : Bound) × Mem b m × ((v ≡ b.binder) ⊎ Mem v (free b.pat (root b.pat)))

module _ (b : Bound) (m : List Bound) (o : All (λ b. Ordered b.pat) (b ∷ m)) where
  of_root : (q : Root) → Mem q (tops 0 (b ∷ m)) → (v : ℕ) → Mem v (free (flat 0 (b ∷ m)) q.top) ⊎ Mem v (free (flat 0 (b ∷ m)) q.binder) → VarOf (b ∷ m) v
  of_root q i v h = let (c, k, r) = bound_of (flat_ordered b m o) (placed_all (b ∷ m)) o q i in
      (c, k, ⊎_elim (λ a. inr (rw r.top at a)) (λ a. inl (only (rw r.binder at a))) h)

  from : (v : ℕ) → From (flat 0 (b ∷ m)) (tops (1 + length b.pat) m) (item (0 + length b.pat) (reg 0) ∷ item 0 (reg 0) ∷ []) [] v → VarOf (b ∷ m) v
  unfolding tops
  from v (bound k) = absurd (no_var k)
  from v (within i h) = ⊎_elim (λ e. of_root (root_of 0 b) (head refl) v (inl (free_at (flat 0 (b ∷ m)) e h)))
      (λ r. of_root (root_of 0 b) (head refl) v (inr (free_at (flat 0 (b ∷ m)) (only r) h))) (cases_cons i)
  from v (from-top {q = q} k h) = of_root q (tail k) v (inl h)
  from v (binders {q = q} k h) = of_root q (tail k) v (inr h)

  to : (v : ℕ) (q : Root) → Mem q (tops 0 (b ∷ m)) → Mem v (free (flat 0 (b ∷ m)) q.top) ⊎ Mem v (free (flat 0 (b ∷ m)) q.binder) → Mem v (vars (compile_many (b ∷ m)).vars)
  unfolding compile_many tops
  to v q i h =
      let D = many_compiles b m o (ahead (flat 0 (b ∷ m))) in
      ⊎_elim (λ e. ⊎_elim
      (λ a. covers (flat_ordered b m o) D (item (0 + length b.pat) (reg 0)) (head refl) v (free_at (flat 0 (b ∷ m)) {x = item (0 + length b.pat) (reg 0)} {y = item q.top (reg 0)} (ap (λ (z : Root). item z.top (reg 0)) e) a))
      (λ a. covers (flat_ordered b m o) D (item 0 (reg 0)) (tail (head refl)) v (free_at (flat 0 (b ∷ m)) {x = item 0 (reg 0)} {y = item q.binder (reg 0)} (ap (λ (z : Root). item z.binder (reg 0)) e) a)) h)
      (λ r. covers_roots (flat_ordered b m o) D q r v h) (cases_cons i)

  pub many_row_vars : (v : ℕ) → Mem v (vars (compile_many (b ∷ m)).vars) ↔ VarOf (b ∷ m) v
  unfolding compile_many
  many_row_vars v = (
    λ i. from v (sources (flat_ordered b m o) (many_compiles b m o (ahead (flat 0 (b ∷ m)))) v i),
    λ t. let (q, k, r) = root_for (flat_ordered b m o) (placed_all (b ∷ m)) o t.0 t.1 in to v q k (⊎_elim (λ e. inr (rw r.binder (head e))) (λ a. inl (rw r.top a)) t.2),
  )
