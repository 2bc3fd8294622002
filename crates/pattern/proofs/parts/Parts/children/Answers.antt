use Rattle.std.proofs.Common.{ℕ, ◌+◌, ◌*◌, ◌-◌, ◌≡◌, List, take, drop}
use Rattle.std.proofs.Math.Nat.{add-sub_cancel_left}
use Rattle.meaning.specs.PatternWords.{start_at, degree_at, children_of}
use Rattle.meaning.specs.Words.{word}
use Rattle.pattern.proofs.parts.Parts.children.Goals as goal

part : (w : List ℕ) (i n s a : ℕ) → n ≡ word w 0 → s ≡ start_at w i → a ≡ degree_at w i → take (4 + 4 * n + s + a - (4 + 4 * n + s)) (drop (4 + 4 * n + s) w) ≡ children_of w i
unfolding children_of
part w i n s a f e d = rw (add-sub_cancel_left, f, e, d)

pub returns : goal.returns
returns c = search part
