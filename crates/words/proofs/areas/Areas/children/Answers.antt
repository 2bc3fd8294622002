use Rattle.std.proofs.Common.{ℕ, ◌+◌, ◌-◌, ◌≡◌, List, take, drop}
use native.Mathlib.Nat.{add-sub_cancel_left}
use Rattle.meaning.specs.declared.Layout.{Layout}
use Rattle.meaning.specs.Words.{kid_at, arity_at, node_at}
use Rattle.words.proofs.areas.Areas.children.Goals as goal

part : (t : List ℕ) (l : Layout) (i k a : ℕ) → k ≡ kid_at t l i → a ≡ arity_at t l i → take (l.children + k + a - (l.children + k)) (drop (l.children + k) t) ≡ (node_at t l i).kids
unfolding node_at
part t l i k a e d = rw (add-sub_cancel_left, e, d)

pub returns : goal.returns
returns c = search part
