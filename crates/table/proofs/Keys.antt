-- The index entry at which a search for a key ends, and what is found there. Assumes nothing.
use Rattle.std.proofs.Common.{ℕ, ◌<◌, ◌≡◌, true, List, Some, None, Result, Ok, Err, Ordering, Equal}
use Rattle.std.specs.Result.{result_ok}
use Rattle.std.specs.Ordering.{MatchOrdering}
use Rattle.meaning.specs.declared.Layout.{Layout}
use Rattle.meaning.specs.Graph.{Node, node, less}
use Rattle.meaning.specs.Words.{owner_at, index_at, node_at, graph_at}
use Rattle.meaning.specs.Good.{Sound}
use Rattle.meaning.proofs.Laws.Keys.{less_irrefl, less_trans}
use Rattle.meaning.proofs.Laws.Tables.{index_rises, index_onto, node_placed, node_found, key_unplaced}
use Rattle.words.specs.Stops.{Stops}
use Rattle.table.specs.Lookups.{found, found_at}
use Rattle.table.proofs.Searches.{nowhere}

-- an index entry names a node
pub names : {t : List ℕ} {l : Layout} → Sound t l → (x i : ℕ) → i ≡ index_at t l x → x < l.n → i < l.n
names s x i e h = rw e (s.index.below x h)

-- how the key at an index entry compares
pub told : (t : List ℕ) (l : Layout) (x i : ℕ) (n k : Node) (r : Ordering) → i ≡ index_at t l x → n ≡ node_at t l i → MatchOrdering r (less n k ≡ true) (n ≡ k) (less k n ≡ true)
    → MatchOrdering r (less (node_at t l (index_at t l x)) k ≡ true) (node_at t l (index_at t l x) ≡ k) (less k (node_at t l (index_at t l x)) ≡ true)
told t l x i n k r e d h = rw (← e, ← d) h

module _ {t : List ℕ} {l : Layout} (s : Sound t l) (o : ℕ) (ks : List ℕ) {side : ℕ → Ordering → Type 0}
    (tells : (x : ℕ) (r : Ordering) → side x r → MatchOrdering r (less (node_at t l (index_at t l x)) (node o ks) ≡ true) (node_at t l (index_at t l x) ≡ node o ks) (less (node o ks) (node_at t l (index_at t l x)) ≡ true)) where
  pub there : (r : Result ℕ ℕ) → Stops side l.n r → (x : ℕ) → result_ok r ≡ Some x → (i c : ℕ) → i ≡ index_at t l x → c ≡ owner_at t l i → Some (record { node = i; class = record { 0 = c } }) ≡ found_at (graph_at t l) o ks
  unfolding found_at found
  there (Err m) g x n i c e d = cc
  there (Ok y) h x n i c e d = rw (node_placed s o ks i below key, node_found s o ks i below key, d)
    where
      entry : i ≡ index_at t l y
      entry = let z : y ≡ x = cc in rw z e

      below : i < l.n
      below = names s y i entry h.within

      key : node_at t l i ≡ node o ks
      key = rw entry (tells y Equal h.equal)

  pub nothing : (r : Result ℕ ℕ) → Stops side l.n r → result_ok r ≡ None → None ≡ found_at (graph_at t l) o ks
  unfolding found_at found
  nothing (Ok y) h n = cc
  nothing (Err m) g n = rw (key_unplaced s o ks not_there)
    where
      not_there : (i : ℕ) → i < l.n → node_at t l i ≡ node o ks → ⊥
      not_there i h e = let (x, b, f) = index_onto s i h in
          nowhere {R = λ n m. less n m ≡ true} less_trans less_irrefl (λ y. node_at t l (index_at t l y)) l.n (index_rises s) (node o ks) tells m g x b (rw f e)
