-- What a pattern's counts promise of its words. Assumes nothing.
use Rattle.std.specs.Prelude.{ℕ, ◌+◌, ◌*◌, ◌≤◌, ◌≡◌, Bool, true, cond, List, length, eqb, leb}
use Rattle.std.proofs.Common.{arith}
use Rattle.meaning.specs.Tests.{and}
use Rattle.meaning.specs.Words.{word}
use Rattle.meaning.specs.GoodPattern.{PatternLimits, PatternShape, GoodPattern}
use Rattle.pattern.specs.declared.header.Counts.{Counts}

-- the counts are those of the words
pub record Counted (w : List ℕ) (p : Counts) : Type 0 where
  pub nodes : p.n ≡ word w 0
  pub children : p.k ≡ word w 1

-- and within their limits, with node records and children to the end
pub record Laid (w : List ℕ) (p : Counts) : Type 0 where
  pub counted : Counted w p
  pub some : 1 ≤ p.n
  pub nodes : p.n ≤ 64
  pub children : p.k ≤ 512
  pub long : length w ≡ 4 + 4 * p.n + p.k

pub laid : {w : List ℕ} {p : Counts} → PatternLimits w → PatternShape w → Counted w p → Laid w p
laid l s c =
    let n = c.nodes in let k = c.children in let a = l.some in let b = l.nodes in let d = l.children in let e = s.long in
    record { counted = c; some = omega arith; nodes = omega arith; children = omega arith; long = omega arith }

-- a good pattern's words, by the counts that checking gave
pub good_laid : {w : List ℕ} {p : Counts} → GoodPattern w → Counted w p → Laid w p
good_laid g c = laid g.limits g.shape c

-- a variable has arity 0, an operator at most 8, and there is no third kind
unfoldable pub good_arity : ℕ → ℕ → Bool
good_arity k a = and (leb k 1) (and (cond (eqb k 0) (eqb a 0) true) (leb a 8))
