-- A node's value is made from its children's values. Assumes nothing.
use Prim.Native.Nat.{ℕ, zero, suc, ◌+◌, ◌<◌, ◌≤◌}
use Rattle.std.specs.Prelude.{◌≡◌}
use Rattle.std.proofs.Math.Path.{refl, sym}
use Rattle.std.proofs.Common.{◌∙◌, arith}
use mathlib.Core.List.{List, [], ◌∷◌, ◌++◌, Memᴰ as Mem}
use Rattle.std.proofs.Math.ListN.{length, get_or, length-append, get_or-append, get_or-eq_default}
use Rattle.std.proofs.Math.Seq.{get_or-append_seam}
use Rattle.std.proofs.Math.Nat.{add-zero, zero-add}
use Rattle.meaning.specs.Pattern.{PNode, Pattern, node_of, kids_of, Ordered, build, value}

-- the step reads nothing but the children
abbrev pub Local : {A : Type 0} → ((ℕ → A) → PNode → A) → Type 0
Local {A} step = (f h : ℕ → A) (x : PNode) → ((c : ℕ) → Mem c (kids_of x) → f c ≡ h c) → step f x ≡ step h x

module _ {A : Type 0} (d : A) (step : (ℕ → A) → PNode → A) where
  build_length : (p : Pattern) (acc : List A) → length (build d step p acc) ≡ length acc + length p
  unfolding build
  build_length [] acc = sym (add-zero _)
  build_length (n ∷ p) acc = build_length p (acc ++ (step (λ c. get_or acc c d) n ∷ [])) ∙ rw length-append (omega arith)

  -- what is made stays
  build_old : (p : Pattern) (acc : List A) (i : ℕ) → i < length acc → get_or (build d step p acc) i d ≡ get_or acc i d
  unfolding build
  build_old [] acc i h = refl
  build_old (n ∷ p) acc i h = build_old p (acc ++ (step (λ c. get_or acc c d) n ∷ [])) i (rw length-append (omega arith)) ∙ get_or-append acc _ d i h

  built : Local step → (p : Pattern) (acc : List A) (i : ℕ) → i < length p → ((c : ℕ) → Mem c (kids_of (node_of p i)) → c < length acc + i)
      → get_or (build d step p acc) (length acc + i) d ≡ step (λ c. get_or (build d step p acc) c d) (node_of p i)
  unfolding build
  built loc [] acc i h below = absurd (omega arith)
  built loc (n ∷ p) acc zero h below =
      let x = step (λ c. get_or acc c d) n in
      let here : get_or (build d step p (acc ++ (x ∷ []))) (length acc) d ≡ x = build_old p (acc ++ (x ∷ [])) (length acc) (rw length-append (omega arith)) ∙ get_or-append_seam acc x [] d in
      rw add-zero (here ∙ loc (λ c. get_or acc c d) (λ c. get_or (build d step (n ∷ p) acc) c d) n (λ c m. sym (build_old (n ∷ p) acc c (rw add-zero at (below c m)))))
  built loc (n ∷ p) acc (suc i) h below =
      let acc' = acc ++ (step (λ c. get_or acc c d) n ∷ []) in
      let e : length acc + suc i ≡ length acc' + i = rw length-append (omega arith) in
      rw e (built loc p acc' i (omega arith) (λ c m. rw (← e) (below c m)))

  pub value_at : Local step → (p : Pattern) → Ordered p → (n : ℕ) → n < length p → value d step p n ≡ step (value d step p) (node_of p n)
  unfolding value
  value_at loc p o n h = rw zero-add at (built loc p [] n h (λ c m. rw zero-add (o.below n c h m)))

  pub value_out : (p : Pattern) (n : ℕ) → length p ≤ n → value d step p n ≡ d
  unfolding value
  value_out p n h = get_or-eq_default (build d step p []) d (rw (build_length p [], zero-add) h)
