-- A class record's range: some nodes, from where the range before it ends. Assumes nothing.
use Rattle.meaning.specs.Refusal.{good_range_at}
use Rattle.meaning.specs.Words.{first_at, count_at}
use Rattle.meaning.specs.Ranges.{end_before}
use Rattle.meaning.specs.Tests.{and}
use Rattle.std.proofs.Common.{lt-ltb, le-ltb, eqb, List, false, ◌≡◌, ℕ, ◌<◌, ◌≤◌}
use Rattle.meaning.specs.declared.Layout.{Layout}

pub filled : (t : List ℕ) (l : Layout) (j b e : ℕ) → b ≡ first_at t l j → e ≡ end_before (first_at t l) (count_at t l) j → 0 < count_at t l j → eqb b e ≡ good_range_at t l j
unfolding good_range_at and
filled t l j b e q r h = rw (← q, ← r, lt-ltb 0 _ h)

pub empty : (t : List ℕ) (l : Layout) (j : ℕ) → count_at t l j ≤ 0 → false ≡ good_range_at t l j
unfolding good_range_at and
empty t l j h = rw (le-ltb 0 _ h)
