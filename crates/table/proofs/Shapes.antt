-- A node's shape, and how it compares with another. Assumes nothing.
use Rattle.std.proofs.Common.{ℕ, ◌<◌, ◌≡◌, true, false, List, length, Ordering, Less, Equal, Greater, sym, ◌∙◌, inl, inr, arith, le-ltb}
use Rattle.std.specs.Ordering.{ordering_then, nat_cmp, MatchOrdering}
use Rattle.std.specs.Cmp.{ranks}
use Rattle.meaning.specs.declared.Layout.{Layout}
use Rattle.meaning.specs.Graph.{Node, fits, before_block}
use Rattle.meaning.specs.Words.{op_at, arity_at, node_at}
use Rattle.meaning.specs.Good.{Sound}
use Rattle.meaning.proofs.Laws.Keys.{smaller_gt, smaller_eq}
use Rattle.meaning.proofs.Laws.Tables.{node_arity}
use Rattle.meaning.proofs.Laws.Blocks.{before_is, is_fit}
use Rattle.table.specs.declared.shape.Shape.{Shape}
use Rattle.table.specs.Shapes.{shape_of}

pub shaped : {t : List ℕ} {l : Layout} → Sound t l → (i : ℕ) → i < l.n → (o a : ℕ) → o ≡ op_at t l i → a ≡ arity_at t l i → ◌≡◌ {A = Shape} (record { op = o; arity = a }) (shape_of (node_at t l i))
unfolding node_at
shaped s i h o a e d = λ j. record { op = e j; arity = (d ∙ sym (node_arity s i h)) j }

module _ (n : Node) (s : Shape) where
  pub ordered : MatchOrdering (ordering_then (nat_cmp n.op s.op) (nat_cmp (length n.kids) s.arity)) (before_block s.op s.arity n ≡ true) (fits s.op s.arity n ≡ true) (before_block s.op s.arity n ≡ false)
  ordered = go (nat_cmp n.op s.op) (ranks n.op s.op) (nat_cmp (length n.kids) s.arity) (ranks (length n.kids) s.arity)
    where
      go : (p : Ordering) → MatchOrdering p (n.op < s.op) (n.op ≡ s.op) (s.op < n.op) → (q : Ordering) → MatchOrdering q (length n.kids < s.arity) (length n.kids ≡ s.arity) (s.arity < length n.kids)
          → MatchOrdering (ordering_then p q) (before_block s.op s.arity n ≡ true) (fits s.op s.arity n ≡ true) (before_block s.op s.arity n ≡ false)
      go Less l q m = before_is s.op s.arity n (inl l)
      go Equal l Less m = before_is s.op s.arity n (inr (l, m))
      go Equal l Equal m = is_fit s.op s.arity n l m
      go Equal l Greater m = unfold before_block in (smaller_eq n.op s.op _ l ∙ le-ltb _ _ (omega arith))
      go Greater l q m = unfold before_block in (smaller_gt n.op s.op _ l)
