-- The derived order of keys, and the key order on nodes. Assumes nothing.
use Rattle.std.proofs.Common.{ℕ, ◌<◌, ◌≤◌, nat_lt, lt-ltb, le-ltb, ◌≡◌, true, false, List, [], ◌∷◌, length, Ordering, Less, Equal, Greater, sym, ◌∙◌, refl, arith}
use Rattle.std.specs.Prelude.{slice_index_or}
use Rattle.std.specs.Ordering.{ordering_then, nat_cmp, is_lt, MatchOrdering}
use Rattle.std.specs.Cmp.{ranks}
use Rattle.std.specs.Cmp.Lexicographic.{slice_cmp}
use Rattle.meaning.specs.Tests.{not_true_false}
use Rattle.meaning.specs.declared.Layout.{Layout}
use Rattle.meaning.specs.Words.{op_at, node_at}
use Rattle.meaning.specs.Graph.{Node, node, less_kids, less}
use Rattle.words.specs.declared.key.Key.{Key}
use Rattle.words.specs.Keys.{node_of}
use Rattle.meaning.proofs.Laws.Keys.{smaller_lt, smaller_gt, smaller_eq, less_irrefl, less_trans}

along : (o : Ordering) {P Q R P' Q' R' : Type 0} → (P → P') → (Q → Q') → (R → R') → MatchOrdering o P Q R → MatchOrdering o P' Q' R'
along Less f g h p = f p
along Equal f g h p = g p
along Greater f g h p = h p

-- numbers that differ decide
numbers : (a b : ℕ) (o : Ordering) (P Q R : Type 0) → (a < b → P) → (a ≡ b → MatchOrdering o P Q R) → (b < a → R) → MatchOrdering (ordering_then (nat_cmp a b) o) P Q R
numbers a b o P Q R f g h = go (nat_cmp a b) (ranks a b)
  where
    go : (p : Ordering) → MatchOrdering p (a < b) (a ≡ b) (b < a) → MatchOrdering (ordering_then p o) P Q R
    go Less l = f l
    go Equal e = g e
    go Greater l = h l

kids : (x y : List ℕ) → length x ≡ length y → MatchOrdering (slice_cmp nat_cmp x y) (less_kids x y ≡ true) (x ≡ y) (less_kids y x ≡ true)
unfolding less_kids
kids [] [] e = refl
kids [] (b ∷ y) e = absurd (omega arith)
kids (a ∷ x) [] e = absurd (omega arith)
kids (a ∷ x) (b ∷ y) e = numbers a b _ _ _ _
    (λ l. smaller_lt a b _ l)
    (λ q. along (slice_cmp nat_cmp x y) {P = less_kids x y ≡ true} {Q = x ≡ y} {R = less_kids y x ≡ true} (λ h. smaller_eq a b _ q ∙ h) (λ h. λ i. q i ∷ h i) (λ h. smaller_eq b a _ (sym q) ∙ h) (kids x y (omega arith)))
    (λ l. smaller_lt b a _ l)

nodes : (n m : Node) → MatchOrdering (ordering_then (nat_cmp n.op m.op) (ordering_then (nat_cmp (length n.kids) (length m.kids)) (slice_cmp nat_cmp n.kids m.kids))) (less n m ≡ true) (n ≡ m) (less m n ≡ true)
unfolding less
nodes n m = numbers n.op m.op _ _ _ _
    (λ l. smaller_lt n.op m.op _ l)
    (λ q. numbers (length n.kids) (length m.kids) _ _ _ _
    (λ l. smaller_eq n.op m.op _ q ∙ smaller_lt _ _ _ l)
    (λ r. along (slice_cmp nat_cmp n.kids m.kids) {P = less_kids n.kids m.kids ≡ true} {Q = n.kids ≡ m.kids} {R = less_kids m.kids n.kids ≡ true}
    (λ h. smaller_eq n.op m.op _ q ∙ smaller_eq _ _ _ r ∙ h)
    (λ h. λ i. node (q i) (h i))
    (λ h. smaller_eq m.op n.op _ (sym q) ∙ smaller_eq _ _ _ (sym r) ∙ h)
    (kids n.kids m.kids r))
    (λ l. smaller_eq m.op n.op _ (sym q) ∙ smaller_lt _ _ _ l))
    (λ l. smaller_lt m.op n.op _ l)

pub ordered : (a b : Key) (o : Ordering) → o ≡ ordering_then (nat_cmp a.op b.op) (ordering_then (nat_cmp a.arity b.arity) (slice_cmp nat_cmp a.kids.now b.kids.now))
    → MatchOrdering o (less (node_of a) (node_of b) ≡ true) (node_of a ≡ node_of b) (less (node_of b) (node_of a) ≡ true)
ordered a b o e = rw (e, a.counted, b.counted) (nodes (node_of a) (node_of b))

-- less is what the order calls so
pub first : (n m : Node) (o : Ordering) → MatchOrdering o (less n m ≡ true) (n ≡ m) (less m n ≡ true) → is_lt o ≡ less n m
first n m Less h = sym h
first n m Equal h = sym (not_true_false (less n m) (λ e. less_irrefl n (rw (← h) at e)))
first n m Greater h = sym (not_true_false (less n m) (λ e. less_irrefl n (less_trans n m n e h)))

-- nodes whose operators differ
pub told_by_operators : (t : List ℕ) (l : Layout) (i j a b : ℕ) → a ≡ op_at t l i → b ≡ op_at t l j → (a ≡ b → ⊥) → nat_lt a b ≡ less (node_at t l i) (node_at t l j)
unfolding node_at less
told_by_operators t l i j a b e f d = go (nat_cmp a b) (ranks a b)
  where
    go : (p : Ordering) → MatchOrdering p (a < b) (a ≡ b) (b < a) → nat_lt a b ≡ less (node_at t l i) (node_at t l j)
    go Less h = rw (lt-ltb a b h) (sym (smaller_lt _ _ _ (rw (← e, ← f) h)))
    go Equal h = absurd (d h)
    go Greater h = let k : b ≤ a = omega arith in rw (le-ltb a b k) (sym (smaller_gt _ _ _ (rw (← e, ← f) h)))

-- where a key does not come before another, its operator does not
pub no_earlier : (n m : Node) (a b : ℕ) (o : Ordering) → MatchOrdering o (less n m ≡ true) (n ≡ m) (less m n ≡ true) → is_lt o ≡ false → a ≡ n.op → b ≡ m.op → nat_lt a b ≡ less n m
unfolding less
no_earlier n m a b o h g e f = go (nat_cmp a b) (ranks a b)
  where
    late : less n m ≡ false
    late = sym (first n m o h) ∙ g

    go : (p : Ordering) → MatchOrdering p (a < b) (a ≡ b) (b < a) → nat_lt a b ≡ less n m
    go Less l = rw (lt-ltb a b l) (sym (smaller_lt _ _ _ (rw (← e, ← f) l)))
    go Equal q = let k : b ≤ a = omega arith in rw (le-ltb a b k) (sym late)
    go Greater l = let k : b ≤ a = omega arith in rw (le-ltb a b k) (sym late)

-- nor, of keys with one operator and arity, its first child
pub no_lower_child : (n m : Node) (o : Ordering) → MatchOrdering o (less n m ≡ true) (n ≡ m) (less m n ≡ true) → is_lt o ≡ false → n.op ≡ m.op → length n.kids ≡ length m.kids → nat_lt (slice_index_or n.kids 0 0) (slice_index_or m.kids 0 0) ≡ less n m
unfolding less less_kids
no_lower_child n m o h g e f = go n.kids m.kids f (sym (smaller_eq _ _ _ f) ∙ sym (smaller_eq _ _ _ e) ∙ late) ∙ sym late
  where
    late : less n m ≡ false
    late = sym (first n m o h) ∙ g

    go : (x y : List ℕ) → length x ≡ length y → less_kids x y ≡ false → nat_lt (slice_index_or x 0 0) (slice_index_or y 0 0) ≡ false
    go [] [] q k = refl
    go [] (b ∷ y) q k = absurd (omega arith)
    go (a ∷ x) [] q k = absurd (omega arith)
    go (a ∷ x) (b ∷ y) q k = one (nat_cmp a b) (ranks a b)
      where
        one : (p : Ordering) → MatchOrdering p (a < b) (a ≡ b) (b < a) → nat_lt a b ≡ false
        one Less l = rw (lt-ltb a b l) (sym (smaller_lt a b _ l) ∙ k)
        one Equal q = let j : b ≤ a = omega arith in le-ltb a b j
        one Greater l = let j : b ≤ a = omega arith in le-ltb a b j
