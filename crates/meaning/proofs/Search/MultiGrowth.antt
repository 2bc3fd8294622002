-- A map that keeps every node keeps the rows of a multipattern. Assumes nothing.
use Rattle.std.proofs.Common.{ℕ, ◌≡◌, List, ◌∷◌, map, sym, ap, ◌∙◌}
use mathlib.Core.List.Memᴰ.{cast as mem-cast}
use mathlib.Core.List.{Memᴰ as Mem}
use Rattle.meaning.specs.Lists.{All, nil, cons, map_map}
use Rattle.meaning.specs.Graph.{Graph, ids, WellFormed}
use Rattle.meaning.specs.Pattern.{Ordered, root, Bound}
use Rattle.meaning.specs.Instance.{Met}
use Rattle.meaning.specs.Program.{vars, asg}
use Rattle.meaning.specs.Multi.{compile_many, many_matches}
use Rattle.meaning.specs.Search.Rowlaws.{row_asg}
use Rattle.meaning.proofs.Search.Growth.{Grows, grows}
use Rattle.meaning.proofs.Search.MultiTheorem.{many_right, many_vars_once}

module _ {g h : Graph} {φ : ℕ → ℕ} (w : WellFormed g) (u : WellFormed h) (m : Grows g h φ) where
  met_grows : (σ : ℕ → ℕ) {bs : List Bound} → All (λ b. Ordered b.pat) bs → All (Met g σ) bs → All (Met h (λ v. φ (σ v))) bs
  met_grows σ nil nil = nil
  met_grows σ (cons {x = b} o os) (cons M a) = cons
      (record { known = m.classes (σ b.binder) M.known; same = grows w u m o σ (root b.pat) (σ b.binder) M.same })
      (met_grows σ os a)

  -- DEMAND 3 for multipatterns
  pub many_grow : (b : Bound) (bs : List Bound) → All (λ b. Ordered b.pat) (b ∷ bs) → (c : ℕ) → Mem c (ids g)
      → (r : List ℕ) → Mem r (many_matches g (b ∷ bs) c) → Mem (map φ r) (many_matches h (b ∷ bs) (φ c))
  many_grow b bs o c k r j =
      let us = vars (compile_many (b ∷ bs)).vars in
      let A = many_right w b bs o c k in
      let s = A.sound r j in
      let e : map (λ v. φ (asg us r v)) us ≡ map φ r = map_map φ (asg us r) us ∙ ap (λ l. map φ l) (row_asg us r (many_vars_once b bs o) (A.wide r j)) in
      mem-cast (sym e) ((many_right u b bs o (φ c) (m.classes c k)).complete (λ v. φ (asg us r v)) (record { first = ap φ s.first; each = met_grows (asg us r) o s.each }))
