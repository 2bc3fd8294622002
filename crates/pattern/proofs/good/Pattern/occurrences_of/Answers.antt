use Rattle.std.proofs.Common.{ℕ, ◌+◌, ◌<◌, ◌≤◌, ◌≡◌, List, length, get_or, refl, arith, rules}
use Rattle.meaning.specs.Pattern.{sum, occ}
use Rattle.meaning.specs.PatternWords.{children_of, pattern_of}
use Rattle.meaning.specs.Words.{word}
use Rattle.meaning.specs.Laws.Sums.{sum_take}
use Rattle.meaning.proofs.Laws.Patterns.{occ_at}
use Rattle.pattern.specs.Counts.{capped, CountedTo}
use Rattle.pattern.specs.declared.good.Pattern.{Pattern}
use Rattle.pattern.proofs.Children.{some, inside, lower, last}
use Rattle.pattern.proofs.good.Pattern.occurrences_of.Invariants.{so_far}
use Rattle.pattern.proofs.good.Pattern.occurrences_of.Goals as goal

start : (w cs : List ℕ) → 1 ≡ capped (so_far w cs 0)
unfolding sum
start w cs = refl

module _ (p : Pattern) (i : ℕ) (h : i < p.parts.counts.n) (cs : List ℕ) (e : cs ≡ children_of p.parts.words.now i) (x : ℕ) where
  module _ (known : List ℕ) (f : CountedTo p.parts.words.now known i) (b : x < length cs) where
    small : word known (get_or cs x 0) ≤ 257
    small = let z = f (get_or cs x 0) (lower p i h cs e x b) in omega arith

    step : (t u : ℕ) → t ≡ capped (so_far p.parts.words.now cs x) → u ≡ capped (t + word known (get_or cs x 0)) → u ≡ capped (so_far p.parts.words.now cs (x + 1))
    step t u a g = let y = f (get_or cs x 0) (lower p i h cs e x b) in let z = sum_take (occ (pattern_of p.parts.words.now)) cs x b in omega arith

  done : (t : ℕ) → t ≡ capped (so_far p.parts.words.now cs x) → length cs ≤ x → t ≡ capped (occ (pattern_of p.parts.words.now) i)
  done t a m = rw (e, last p i h cs e x m, ← occ_at p.nodes (some p) i (inside p i h)) at a

pub loop-c-init : goal.loop-c-init
loop-c-init c = search (rules, start)

pub overflow_add-total : goal.overflow_add-total
overflow_add-total c = let h = small c.args.self.now _ c.requires.0 _ c.children-c-items.ensures _ _ c.requires.1 c.loop-c-test.true in omega arith

pub loop-c-preserved : goal.loop-c-preserved
loop-c-preserved c = search (rules, step)

pub returns : goal.returns
returns c = search (rules, done)
