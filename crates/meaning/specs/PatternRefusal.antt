-- The refusal number of a pattern and of a multipattern, computed from any words. Assumes nothing.
use Rattle.std.specs.Prelude.{ℕ, zero, suc, ◌+◌, ◌*◌, ◌-◌, List, Bool, true, cond, not, length, eqb, ltb, leb}
use Rattle.meaning.specs.Tests.{and, all_below, same_list}
use Rattle.meaning.specs.Ranges.{end_from, end_before}
use Rattle.meaning.specs.Words.{word}
use Rattle.meaning.specs.Pattern.{occurrences}
use Rattle.meaning.specs.PatternWords.{kind_at, number_at, degree_at, start_at, child_of, children_of, pattern_of, offset_at, length_at, part_at}
use Rattle.meaning.specs.GoodPattern.{occurrences_to}

-- p holds of some number below n
unfoldable pub some_below : (ℕ → Bool) → ℕ → Bool
some_below p n = not (all_below (λ x. not (p x)) n)

-- the first of f 0, f 1, .., f (n - 1) that is not 0, or 0
unfoldable pub first_below : (ℕ → ℕ) → ℕ → ℕ
first_below f zero = 0
first_below f (suc n) = let r = first_below f n in cond (eqb r 0) (f n) r

module _ (w : List ℕ) where
  unfoldable pub good_pattern_limits : Bool
  good_pattern_limits = and (leb 1 (word w 0)) (and (leb (word w 0) 64) (leb (word w 1) 512))

  unfoldable pub good_pattern_shape : Bool
  good_pattern_shape = and (eqb (word w 2) 4) (and (eqb (word w 3) (4 + 4 * word w 0)) (eqb (length w) (4 + 4 * word w 0 + word w 1)))

  -- each child of node i is below it
  unfoldable pub good_below : ℕ → Bool
  good_below i = all_below (λ x. ltb (child_of w (start_at w i + x)) i) (degree_at w i)

  -- node i by itself: its kind, its arity, its children's range and numbers
  unfoldable pub good_part_at : ℕ → Bool
  good_part_at i = and (leb (kind_at w i) 1)
      (and (cond (eqb (kind_at w i) 0) (eqb (degree_at w i) 0) true)
      (and (leb (degree_at w i) 8)
      (and (eqb (start_at w i) (end_before (start_at w) (degree_at w) i))
      (and (leb (start_at w i + degree_at w i) (word w 1)) (good_below i)))))

  unfoldable pub good_parts : Bool
  good_parts = and (all_below good_part_at (word w 0)) (eqb (end_before (start_at w) (degree_at w) (word w 0)) (word w 1))

  -- node i is somebody's child
  unfoldable pub is_used : ℕ → Bool
  is_used i = some_below (λ x. eqb (child_of w x) i) (word w 1)

  unfoldable pub good_use : Bool
  good_use = all_below is_used (word w 0 - 1)

  unfoldable pub is_same : ℕ → ℕ → Bool
  is_same i j = and (eqb (kind_at w i) (kind_at w j)) (and (eqb (number_at w i) (number_at w j)) (same_list (children_of w i) (children_of w j)))

  -- no node before j says the same as j
  unfoldable pub is_new : ℕ → Bool
  is_new j = all_below (λ i. not (is_same i j)) j

  unfoldable pub good_once : Bool
  good_once = all_below is_new (word w 0)

  unfoldable pub good_pattern_nodes : Bool
  good_pattern_nodes = and good_parts (and good_use good_once)

  -- document 01's number, in its order: 0 for a good pattern
  unfoldable pub pattern_refusal : ℕ
  pattern_refusal = cond (ltb (length w) 4) 7
      (cond good_pattern_limits (cond good_pattern_shape (cond good_pattern_nodes (cond (leb (occurrences (pattern_of w)) 256) 0 8) 9) 7) 8)

  unfoldable pub good_multi_limits : Bool
  good_multi_limits = and (leb 1 (word w 0)) (leb (word w 0) 8)

  unfoldable pub good_entry_at : ℕ → Bool
  good_entry_at i = eqb (offset_at w i) (end_from (3 + 3 * word w 0) (offset_at w) (length_at w) i)

  unfoldable pub good_multi_shape : Bool
  good_multi_shape = and (eqb (word w 1) 3)
      (and (eqb (word w 2) (3 + 3 * word w 0))
      (and (all_below good_entry_at (word w 0)) (eqb (end_from (3 + 3 * word w 0) (offset_at w) (length_at w) (word w 0)) (length w))))

-- the pattern's words are those of one variable
unfoldable pub lone_variable : List ℕ → Bool
lone_variable w = and (eqb (word w 0) 1) (eqb (kind_at w 0) 0)

module _ (w : List ℕ) where
  -- each pattern's number in turn, then 8 for the sum
  unfoldable pub parts_refusal : ℕ
  parts_refusal = let r = first_below (λ i. pattern_refusal (part_at w i)) (word w 0) in
      cond (eqb r 0) (cond (leb (occurrences_to w (word w 0)) 256) 0 8) r

  -- document 01's number of a multipattern as a right side
  unfoldable pub right_refusal : ℕ
  right_refusal = cond (ltb (length w) 3) 10 (cond (good_multi_limits w) (cond (good_multi_shape w) parts_refusal 10) 8)

  -- and as a left side, or searched: then 11
  unfoldable pub multi_refusal : ℕ
  multi_refusal = cond (eqb (right_refusal) 0) (cond (lone_variable (part_at w 0)) 11 0) right_refusal
