use Rattle.std.proofs.Common.{ℕ, ◌≡◌, List, Bool, ◌&&◌, eqb, ap, ◌∙◌}
use Rattle.std.specs.Cmp.Lexicographic.{pointwise}
use Rattle.meaning.specs.PatternRefusal.{is_same}
use Rattle.meaning.specs.PatternWords.{kind_at, number_at, children_of}
use Rattle.meaning.specs.Tests.{and}
use Rattle.meaning.proofs.Laws.Slices.{joined_tests, equal_slices}
use Rattle.pattern.proofs.once.Nodes.is_same.Goals as goal

by_parts : (w : List ℕ) (i j k l m n : ℕ) (x y : List ℕ) (r : Bool) → k ≡ kind_at w i → m ≡ number_at w i → x ≡ children_of w i → l ≡ kind_at w j → n ≡ number_at w j → y ≡ children_of w j
    → r ≡ (eqb k l && (eqb m n && pointwise eqb x y)) → r ≡ is_same w i j
unfolding is_same
by_parts w i j k l m n x y r e f g p q s h = rw (← e, ← f, ← g, ← p, ← q, ← s) (h ∙ joined_tests _ _ ∙ ap (and (eqb k l)) (joined_tests _ _ ∙ ap (and (eqb m n)) (equal_slices x y)))

pub returns : goal.returns
returns c = search by_parts
