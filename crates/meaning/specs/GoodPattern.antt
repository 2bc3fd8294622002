-- When a pattern and a multipattern are good: document 01's rules, a line each. Assumes nothing.
use Rattle.std.specs.Prelude.{ℕ, suc, ◌+◌, ◌*◌, ◌<◌, ◌≤◌, ◌≡◌, List, [], ◌∷◌, length}
use Rattle.meaning.specs.Ranges.{from}
use Rattle.meaning.specs.Words.{word}
use Rattle.meaning.specs.Good.{JoinedFrom, Joined}
use Rattle.meaning.specs.Pattern.{var, Pattern, sum, occurrences}
use Rattle.meaning.specs.PatternWords.{kind_at, number_at, degree_at, start_at, child_of, children_of, pattern_of, offset_at, length_at, part_at}

module _ (w : List ℕ) where
  pub record PatternLimits : Type 0 where
    pub some : 1 ≤ word w 0
    pub nodes : word w 0 ≤ 64
    pub children : word w 1 ≤ 512

  pub record PatternShape : Type 0 where
    pub nodes : word w 2 ≡ 4
    pub children : word w 3 ≡ 4 + 4 * word w 0
    pub long : length w ≡ 4 + 4 * word w 0 + word w 1

  -- two node records that say the same
  pub record Same (i j : ℕ) : Type 0 where
    pub kind : kind_at w i ≡ kind_at w j
    pub number : number_at w i ≡ number_at w j
    pub children : children_of w i ≡ children_of w j

  pub record PatternNodes : Type 0 where
    pub kind : (i : ℕ) → i < word w 0 → kind_at w i ≤ 1
    pub leaf : (i : ℕ) → i < word w 0 → kind_at w i ≡ 0 → degree_at w i ≡ 0
    pub arity : (i : ℕ) → i < word w 0 → degree_at w i ≤ 8
    pub joined : Joined (start_at w) (degree_at w) (word w 0) (word w 1)
    pub below : (i x : ℕ) → i < word w 0 → x < degree_at w i → child_of w (start_at w i + x) < i
    pub used : (i : ℕ) → suc i < word w 0 → (x : ℕ) × (x < word w 1) × (child_of w x ≡ i)
    pub once : (i j : ℕ) → i < j → j < word w 0 → Same i j → ⊥

  -- of the node rule, what a walk from the children up needs
  pub record Downward : Type 0 where
    pub kind : (i : ℕ) → i < word w 0 → kind_at w i ≤ 1
    pub leaf : (i : ℕ) → i < word w 0 → kind_at w i ≡ 0 → degree_at w i ≡ 0
    pub arity : (i : ℕ) → i < word w 0 → degree_at w i ≤ 8
    pub joined : Joined (start_at w) (degree_at w) (word w 0) (word w 1)
    pub below : (i x : ℕ) → i < word w 0 → x < degree_at w i → child_of w (start_at w i + x) < i

  pub record GoodPattern : Type 0 where
    pub header : 4 ≤ length w
    pub limits : PatternLimits
    pub shape : PatternShape
    pub nodes : PatternNodes
    pub few : occurrences (pattern_of w) ≤ 256

  -- document 01's number for the words w as a pattern, in its order
  pub data PatternNumbered : ℕ → Type 0 where
    good : GoodPattern → PatternNumbered 0
    short : length w < 4 → PatternNumbered 7
    over : 4 ≤ length w → (PatternLimits → ⊥) → PatternNumbered 8
    misplaced : 4 ≤ length w → PatternLimits → (PatternShape → ⊥) → PatternNumbered 7
    node_broken : 4 ≤ length w → PatternLimits → PatternShape → (PatternNodes → ⊥) → PatternNumbered 9
    many : 4 ≤ length w → PatternLimits → PatternShape → PatternNodes → 256 < occurrences (pattern_of w) → PatternNumbered 8

  pub record MultiLimits : Type 0 where
    pub some : 1 ≤ word w 0
    pub patterns : word w 0 ≤ 8

  -- records at 3, then the patterns in order without gaps to the end
  pub record MultiShape : Type 0 where
    pub records : word w 1 ≡ 3
    pub patterns : word w 2 ≡ 3 + 3 * word w 0
    pub joined : JoinedFrom (3 + 3 * word w 0) (offset_at w) (length_at w) (word w 0) (length w)

-- occurrences over the first n patterns
unfoldable pub occurrences_to : List ℕ → ℕ → ℕ
occurrences_to w n = sum (λ i. occurrences (pattern_of (part_at w i))) (from 0 n)

-- a pattern that is one variable
unfoldable pub IsLone : Pattern → Type 0
IsLone p = (v : ℕ) × (p ≡ var v ∷ [])

module _ (w : List ℕ) where
  -- a multipattern as a right side
  pub record GoodRight : Type 0 where
    pub header : 3 ≤ length w
    pub limits : MultiLimits w
    pub shape : MultiShape w
    pub each : (i : ℕ) → i < word w 0 → GoodPattern (part_at w i)
    pub few : occurrences_to w (word w 0) ≤ 256

  -- as a left side, or searched: its first pattern is not one variable
  pub record GoodMulti : Type 0 where
    pub right : GoodRight
    pub first : IsLone (pattern_of (part_at w 0)) → ⊥

  -- document 01's number for the words w as a multipattern, but for 11
  pub data RightNumbered : ℕ → Type 0 where
    good : GoodRight → RightNumbered 0
    short : length w < 3 → RightNumbered 10
    over : 3 ≤ length w → (MultiLimits w → ⊥) → RightNumbered 8
    misplaced : 3 ≤ length w → MultiLimits w → (MultiShape w → ⊥) → RightNumbered 10
    broken : 3 ≤ length w → MultiLimits w → MultiShape w → (i n : ℕ) → i < word w 0 → ((j : ℕ) → j < i → GoodPattern (part_at w j)) → PatternNumbered (part_at w i) n → (n ≡ 0 → ⊥) → RightNumbered n
    many : 3 ≤ length w → MultiLimits w → MultiShape w → ((i : ℕ) → i < word w 0 → GoodPattern (part_at w i)) → 256 < occurrences_to w (word w 0) → RightNumbered 8

  -- and with 11
  pub data MultiNumbered : ℕ → Type 0 where
    good : GoodMulti → MultiNumbered 0
    lone : GoodRight → IsLone (pattern_of (part_at w 0)) → MultiNumbered 11
    refused : (n : ℕ) → RightNumbered n → (n ≡ 0 → ⊥) → MultiNumbered n
