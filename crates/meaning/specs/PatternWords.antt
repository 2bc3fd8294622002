-- The words of a pattern and of a multipattern. Assumes nothing.
use Rattle.std.specs.Prelude.{ℕ, ◌+◌, ◌*◌, List, map, cond, take, drop, eqb}
use Rattle.meaning.specs.Ranges.{from}
use Rattle.meaning.specs.Words.{word}
use Rattle.meaning.specs.Pattern.{PNode, var, op, Pattern, Bound}

-- node record i: kind, number, arity, first child
abbrev pub part_word : List ℕ → ℕ → ℕ → ℕ
part_word w i f = word w (4 + 4 * i + f)

abbrev pub kind_at : List ℕ → ℕ → ℕ
kind_at w i = part_word w i 0

abbrev pub number_at : List ℕ → ℕ → ℕ
number_at w i = part_word w i 1

abbrev pub degree_at : List ℕ → ℕ → ℕ
degree_at w i = part_word w i 2

abbrev pub start_at : List ℕ → ℕ → ℕ
start_at w i = part_word w i 3

-- the child at place x of the children area
abbrev pub child_of : List ℕ → ℕ → ℕ
child_of w x = word w (4 + 4 * word w 0 + x)

-- the children of node i, a part of the pattern
unfoldable pub children_of : List ℕ → ℕ → List ℕ
children_of w i = take (degree_at w i) (drop (4 + 4 * word w 0 + start_at w i) w)

unfoldable pub pnode_at : List ℕ → ℕ → PNode
pnode_at w i = cond (eqb (kind_at w i) 0) (var (number_at w i)) (op (number_at w i) (children_of w i))

-- the pattern that good words mean
unfoldable pub pattern_of : List ℕ → Pattern
pattern_of w = map (pnode_at w) (from 0 (word w 0))

-- record i of a multipattern: binder, offset, length
abbrev pub entry_word : List ℕ → ℕ → ℕ → ℕ
entry_word w i f = word w (3 + 3 * i + f)

abbrev pub binder_at : List ℕ → ℕ → ℕ
binder_at w i = entry_word w i 0

abbrev pub offset_at : List ℕ → ℕ → ℕ
offset_at w i = entry_word w i 1

abbrev pub length_at : List ℕ → ℕ → ℕ
length_at w i = entry_word w i 2

-- the words of pattern i
unfoldable pub part_at : List ℕ → ℕ → List ℕ
part_at w i = take (length_at w i) (drop (offset_at w i) w)

unfoldable pub bound_at : List ℕ → ℕ → Bound
bound_at w i = record { binder = binder_at w i; pat = pattern_of (part_at w i) }

-- the multipattern that good words mean
unfoldable pub multi_of : List ℕ → List Bound
multi_of w = map (bound_at w) (from 0 (word w 0))
