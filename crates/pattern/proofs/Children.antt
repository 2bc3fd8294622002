-- A pattern's node and its children. Assumes nothing.
use Rattle.std.proofs.Common.{ℕ, ◌+◌, ◌*◌, ◌<◌, ◌≤◌, ◌≡◌, List, length, get_or, take, arith}
use Rattle.std.proofs.Math.Seq.{take_all}
use Rattle.meaning.specs.Words.{word}
use Rattle.meaning.specs.PatternWords.{degree_at, start_at, children_of}
use Rattle.meaning.proofs.Laws.Patterns.{child_there, children_within, children_length}
use Rattle.pattern.specs.declared.good.Pattern.{Pattern}

module _ (p : Pattern) where
  pub some : 1 ≤ word p.parts.words.now 0
  some = let q = p.parts.laid.counted.nodes in let z = p.parts.laid.some in omega arith

  pub long : length p.parts.words.now ≡ 4 + 4 * word p.parts.words.now 0 + word p.parts.words.now 1
  long = let q = p.parts.laid.counted.nodes in let k = p.parts.laid.counted.children in let z = p.parts.laid.long in omega arith

  module _ (i : ℕ) (h : i < p.parts.counts.n) where
    pub inside : i < word p.parts.words.now 0
    inside = let q = p.parts.laid.counted.nodes in omega arith

    pub few_children : degree_at p.parts.words.now i ≤ 8
    few_children = p.nodes.arity i inside

    pub area : start_at p.parts.words.now i + degree_at p.parts.words.now i ≤ p.parts.counts.k
    area = let z = children_within p.nodes i inside in let q = p.parts.laid.counted.children in omega arith

    pub children_here : length (children_of p.parts.words.now i) ≡ degree_at p.parts.words.now i
    children_here = children_length p.nodes long i inside

    -- its children as a list, from the first to the last
    module _ (l : List ℕ) (e : l ≡ children_of p.parts.words.now i) (x : ℕ) where
      pub turn : x < length l → x < degree_at p.parts.words.now i
      turn b = rw (e, children_here) at b

      pub lower : x < length l → get_or l x 0 < i
      lower b = rw (e, child_there p.parts.words.now i x (turn b)) (p.nodes.below i x inside (turn b))

      pub last : length l ≤ x → take x (children_of p.parts.words.now i) ≡ children_of p.parts.words.now i
      last b = take_all x (children_of p.parts.words.now i) (rw e at b)

pub ruleset node_facts = (area, few_children, children_here, lower, last)
