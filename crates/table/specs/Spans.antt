-- A class's nodes as a run of node numbers, and where an operator's nodes start in it. Assumes nothing.
use Rattle.std.specs.Prelude.{ℕ, suc, ◌+◌, ◌<◌, ◌≤◌, ◌≡◌, true, List, map}
use Rattle.meaning.specs.declared.Layout.{Layout}
use Rattle.meaning.specs.Ranges.{from, leading}
use Rattle.meaning.specs.Graph.{less, fits, before_block, nodes_of}
use Rattle.meaning.specs.Words.{node_at, graph_at}
use Rattle.table.specs.declared.class.Span.{Span}

-- a run of the table's nodes that rise by key
pub record Rising (t : List ℕ) (l : Layout) (s : Span) : Type 0 where
  pub within : s.first + s.count ≤ l.n
  pub rising : (k : ℕ) → suc k < s.count → less (node_at t l (s.first + k)) (node_at t l (s.first + suc k)) ≡ true

-- the nodes of class c
pub record Spans (t : List ℕ) (l : Layout) (c : ℕ) (s : Span) : Type 0 where
  pub run : Rising t l s
  pub nodes : map (node_at t l) (from s.first s.count) ≡ nodes_of (graph_at t l) c

-- the place, among the nodes of the span, of the first with operator o and arity a
unfoldable pub block_start : List ℕ → Layout → Span → ℕ → ℕ → ℕ
block_start t l s o a = leading (λ k. before_block o a (node_at t l (s.first + k))) s.count

-- a place with none but such nodes from the first of them to it
pub record Met (t : List ℕ) (l : Layout) (s : Span) (o a m : ℕ) : Type 0 where
  pub within : m ≤ s.count
  pub reached : block_start t l s o a ≤ m
  pub fit : (k : ℕ) → block_start t l s o a ≤ k → k < m → fits o a (node_at t l (s.first + k)) ≡ true
