-- The nodes of one operator and arity stand together in a class. Assumes nothing.
use Rattle.std.proofs.Common.{ℕ, ◌<◌, ◌≤◌, ◌≡◌, refl, Bool, true, false, ◌⊎◌, ltb, length, sym, ◌∙◌, arith, ltb-true, ltb-false, lt-ltb, eqb-true, eq-eqb}
use Rattle.std.proofs.Math.Logic.{inl, inr, ⊎_elim}
use Rattle.meaning.specs.Tests.{apart, and_left, and_right, and_both, not_true_false}
use Rattle.meaning.specs.Graph.{Node, smaller, less_kids, less, fits, before_block}
use Rattle.meaning.proofs.Laws.Keys.{smaller_lt, smaller_eq, smaller_cases}

-- what comes first by operator and arity
pub record Earlier (n m : Node) : Type 0 where
  pub op : n.op ≤ m.op
  pub arity : n.op ≡ m.op → length n.kids ≤ length m.kids

pub less_earlier : (n m : Node) → less n m ≡ true → Earlier n m
unfolding less
less_earlier n m h = go (smaller_cases n.op m.op _ h)
  where
    go : (n.op < m.op) ⊎ ((n.op ≡ m.op) × (smaller (length n.kids) (length m.kids) (less_kids n.kids m.kids) ≡ true)) → Earlier n m
    go (inl l) = record { op = omega arith; arity = λ e. absurd (omega arith) }
    go (inr p) = record { op = let e = p.0 in omega arith; arity = λ e. ⊎_elim (λ l. omega arith) (λ q. let d = q.0 in omega arith) (smaller_cases _ _ _ p.1) }

module _ (o a : ℕ) where
  before_cases : (n : Node) → before_block o a n ≡ true → (n.op < o) ⊎ ((n.op ≡ o) × (length n.kids < a))
  unfolding before_block
  before_cases n h = ⊎_elim inl (λ p. inr (p.0, ltb-true _ _ p.1)) (smaller_cases n.op o _ h)

  pub before_is : (n : Node) → (n.op < o) ⊎ ((n.op ≡ o) × (length n.kids < a)) → before_block o a n ≡ true
  unfolding before_block
  before_is n (inl l) = smaller_lt n.op o _ l
  before_is n (inr p) = smaller_eq n.op o _ p.0 ∙ lt-ltb _ _ p.1

  pub fits_op : (n : Node) → fits o a n ≡ true → n.op ≡ o
  unfolding fits
  fits_op n h = eqb-true _ _ (and_left _ _ h)

  pub fits_arity : (n : Node) → fits o a n ≡ true → length n.kids ≡ a
  unfolding fits
  fits_arity n h = eqb-true _ _ (and_right _ _ h)

  pub is_fit : (n : Node) → n.op ≡ o → length n.kids ≡ a → fits o a n ≡ true
  unfolding fits
  is_fit n e d = and_both (eq-eqb _ _ e) (eq-eqb _ _ d)

  -- what comes before a node before the block does too
  pub before_falls : (n m : Node) → less n m ≡ true → before_block o a m ≡ true → before_block o a n ≡ true
  before_falls n m h b = let e = less_earlier n m h in before_is n (go e (before_cases m b))
    where
      go : Earlier n m → (m.op < o) ⊎ ((m.op ≡ o) × (length m.kids < a)) → (n.op < o) ⊎ ((n.op ≡ o) × (length n.kids < a))
      go e (inl l) = let p = e.op in inl (omega arith)
      go e (inr q) = split (ltb n.op o) refl
        where
          split : (b : Bool) → ltb n.op o ≡ b → (n.op < o) ⊎ ((n.op ≡ o) × (length n.kids < a))
          split true s = inl (ltb-true _ _ s)
          split false s =
              let l = ltb-false n.op o s in let p = e.op in let d = q.0 in let k = q.1 in
              let same : n.op ≡ o = omega arith in
              let r = e.arity (same ∙ sym d) in inr (same, omega arith)

  -- a node that fits does not come before the block
  pub fits_not_before : (n : Node) → fits o a n ≡ true → before_block o a n ≡ false
  fits_not_before n h = not_true_false _ (λ b. go (before_cases n b))
    where
      go : (n.op < o) ⊎ ((n.op ≡ o) × (length n.kids < a)) → ⊥
      go (inl l) = let e = fits_op n h in omega arith
      go (inr p) = let e = fits_arity n h in let q = p.1 in omega arith

  -- what is not before the block, but before one of its nodes, is of the block
  pub fits_between : (n m : Node) → less n m ≡ true → before_block o a n ≡ false → fits o a m ≡ true → fits o a n ≡ true
  fits_between n m h b f = is_fit n same (arity (ltb (length n.kids) a) refl)
    where
      e : Earlier n m
      e = less_earlier n m h

      not_before : (n.op < o) ⊎ ((n.op ≡ o) × (length n.kids < a)) → ⊥
      not_before p = apart (sym (before_is n p) ∙ b)

      same : n.op ≡ o
      same = let p = e.op in let q = fits_op m f in go (ltb n.op o) refl
        where
          go : (b : Bool) → ltb n.op o ≡ b → n.op ≡ o
          go true s = absurd (not_before (inl (ltb-true _ _ s)))
          go false s = let l = ltb-false n.op o s in let p = e.op in let q = fits_op m f in omega arith

      arity : (b : Bool) → ltb (length n.kids) a ≡ b → length n.kids ≡ a
      arity true s = absurd (not_before (inr (same, ltb-true _ _ s)))
      arity false s = let l = ltb-false (length n.kids) a s in let q = fits_op m f in let r = fits_arity m f in let k = e.arity (same ∙ sym q) in omega arith
