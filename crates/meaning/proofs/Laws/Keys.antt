-- The key order is strict, and a key has one node. Assumes nothing.
use Rattle.std.proofs.Common.{ℕ, ◌<◌, ◌≤◌, ◌≡◌, refl, List, [], ◌∷◌, ◌⊎◌, Bool, true, false, cond, ltb, length, sym, ap, ◌∙◌, inl, inr, arith, lt-ltb, le-ltb, ltb-true, ltb-false, eqb-true, eq-eqb}
use Rattle.meaning.specs.Tests.{apart, and_left, and_right, and_both, same_true, same_refl}
use Rattle.meaning.specs.Graph.{Node, node, smaller, less_kids, less, is_key}

pub smaller_lt : (a b : ℕ) (r : Bool) → a < b → smaller a b r ≡ true
unfolding smaller
smaller_lt a b r h = rw (lt-ltb a b h)

pub smaller_gt : (a b : ℕ) (r : Bool) → b < a → smaller a b r ≡ false
unfolding smaller
smaller_gt a b r h = let l : b ≤ a = omega arith in rw (le-ltb a b l, lt-ltb b a h)

pub smaller_eq : (a b : ℕ) (r : Bool) → a ≡ b → smaller a b r ≡ r
unfolding smaller
smaller_eq a b r e = let l : b ≤ a = omega arith in let m : a ≤ b = omega arith in rw (le-ltb a b l, le-ltb b a m)

pub smaller_cases : (a b : ℕ) (r : Bool) → smaller a b r ≡ true → (a < b) ⊎ ((a ≡ b) × (r ≡ true))
unfolding smaller
smaller_cases a b r h = go (ltb a b) refl (ltb b a) refl h
  where
    go : (x : Bool) → ltb a b ≡ x → (y : Bool) → ltb b a ≡ y → cond x true (cond y false r) ≡ true → (a < b) ⊎ ((a ≡ b) × (r ≡ true))
    go true e y f h = inl (ltb-true a b e)
    go false e true f h = apart (sym h)
    go false e false f h = let p = ltb-false a b e in let q = ltb-false b a f in inr (omega arith, h)

pub smaller_trans : (a b c : ℕ) (r s q : Bool) → (r ≡ true → s ≡ true → q ≡ true) → smaller a b r ≡ true → smaller b c s ≡ true → smaller a c q ≡ true
smaller_trans a b c r s q t h k = go (smaller_cases a b r h) (smaller_cases b c s k)
  where
    go : (a < b) ⊎ ((a ≡ b) × (r ≡ true)) → (b < c) ⊎ ((b ≡ c) × (s ≡ true)) → smaller a c q ≡ true
    go (inl x) (inl y) = smaller_lt a c q (omega arith)
    go (inl x) (inr y) = smaller_lt a c q (omega arith)
    go (inr x) (inl y) = smaller_lt a c q (omega arith)
    go (inr x) (inr y) = smaller_eq a c q (x.0 ∙ y.0) ∙ t x.1 y.1

kids_irrefl : (x : List ℕ) → less_kids x x ≡ true → ⊥
unfolding less_kids
kids_irrefl [] h = apart (sym h)
kids_irrefl (a ∷ x) h = kids_irrefl x (sym (smaller_eq a a (less_kids x x) refl) ∙ h)

kids_trans : (x y z : List ℕ) → less_kids x y ≡ true → less_kids y z ≡ true → less_kids x z ≡ true
unfolding less_kids
kids_trans [] y z h k = h
kids_trans (a ∷ x) [] z h k = apart (sym h)
kids_trans (a ∷ x) (b ∷ y) [] h k = k
kids_trans (a ∷ x) (b ∷ y) (c ∷ z) h k = smaller_trans a b c _ _ (less_kids x z) (λ p q. kids_trans x y z p q) h k

pub less_irrefl : (n : Node) → less n n ≡ true → ⊥
unfolding less
less_irrefl n h = kids_irrefl n.kids (sym (smaller_eq n.op n.op _ refl ∙ smaller_eq (length n.kids) (length n.kids) _ refl) ∙ h)

pub less_trans : (n m k : Node) → less n m ≡ true → less m k ≡ true → less n k ≡ true
unfolding less
less_trans n m k p q = smaller_trans n.op m.op k.op _ _ _
    (smaller_trans (length n.kids) (length m.kids) (length k.kids) _ _ _ (kids_trans n.kids m.kids k.kids)) p q

-- a node has a key exactly when it is that node
pub key_is : (o : ℕ) (ks : List ℕ) (n : Node) → is_key o ks n ≡ true → n ≡ node o ks
unfolding is_key
key_is o ks n h = let e = eqb-true n.op o (and_left _ _ h) in let f = same_true n.kids ks (and_right _ _ h) in
    ap (λ z. node z n.kids) e ∙ ap (λ z. node o z) f

pub is_key_lem : (o : ℕ) (ks : List ℕ) (n : Node) → n ≡ node o ks → is_key o ks n ≡ true
unfolding is_key
is_key_lem o ks n e = rw e (and_both (eq-eqb o o refl) (same_refl ks))
