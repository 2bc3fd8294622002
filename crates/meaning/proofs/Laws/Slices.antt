-- `&&` and `==` of slices, as the definitions have them. Assumes nothing.
use Rattle.std.proofs.Common.{ℕ, ◌≡◌, List, [], ◌∷◌, Bool, true, false, ◌&&◌, eqb, refl, ap, ◌∙◌}
use Rattle.std.specs.Cmp.Lexicographic.{pointwise}
use Rattle.meaning.specs.Tests.{and, same_list}

pub joined_tests : (a b : Bool) → (a && b) ≡ and a b
unfolding and
joined_tests true b = refl
joined_tests false b = refl

-- two slices are equal exactly where their lists are the same
pub equal_slices : (x y : List ℕ) → pointwise eqb x y ≡ same_list x y
unfolding same_list
equal_slices [] [] = refl
equal_slices [] (b ∷ y) = refl
equal_slices (a ∷ x) [] = refl
equal_slices (a ∷ x) (b ∷ y) = joined_tests _ _ ∙ ap (and (eqb a b)) (equal_slices x y)
