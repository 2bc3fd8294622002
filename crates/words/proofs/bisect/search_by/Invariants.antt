use Rattle.std.proofs.Common.{ℕ, ◌+◌, ◌-◌, ◌<◌, ◌≤◌, ◌≡◌}
use Rattle.std.specs.declared.cmp.Ordering.TheVariants.{Less, Greater}
use Rattle.words.proofs.bisect.search_by.Given as goal

abbrev pub invariant-loop-lo : goal.invariant-loop-lo
invariant-loop-lo g l = record {
  within : l.hi ≤ l.n;
  ordered : l.lo ≤ l.hi;
  before : (k : ℕ) → k + 1 ≡ l.lo → goal.F-post g l.side k Less;
  after : l.hi < l.n → goal.F-post g l.side l.hi Greater;
}

abbrev pub decreases-loop-lo : goal.decreases-loop-lo
decreases-loop-lo g l = l.hi - l.lo
