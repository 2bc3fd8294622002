use Rattle.std.proofs.Common.{ℕ, ◌≡◌, List}
use Rattle.meaning.specs.declared.Layout.{Layout}
use Rattle.meaning.specs.Graph.{Node, node}
use Rattle.meaning.specs.Words.{op_at, node_at}
use Rattle.words.proofs.areas.Areas.key_at.Goals as goal

made : (t : List ℕ) (l : Layout) (i o : ℕ) (ks : List ℕ) (n : Node) → o ≡ op_at t l i → ks ≡ (node_at t l i).kids → n ≡ node o ks → n ≡ node_at t l i
unfolding node_at
made t l i o ks n e f g = rw (g, e, f)

pub returns : goal.returns
returns c = search made
