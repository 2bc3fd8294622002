-- Where the nodes of a shape start in a run. Assumes nothing.
use Rattle.std.proofs.Common.{ℕ, ◌+◌, ◌-◌, ◌<◌, ◌≤◌, ◌≡◌, Bool, true, false, ltb, List, Option, Some, None, Result, Ok, Err, Ordering, Less, Equal, sym, ◌∙◌, ⊎_elim, arith, eq-or-lt_of_le, ltb-true, ltb-false, Greater, refl}
use Rattle.std.specs.Option.{MatchOption, unwrap_or}
use Rattle.std.specs.Result.{MatchResult}
use Rattle.std.specs.Ordering.{MatchOrdering}
use Rattle.meaning.specs.declared.Layout.{Layout}
use Rattle.meaning.specs.Tests.{apart}
use Rattle.meaning.specs.Ranges.{leading}
use Rattle.meaning.specs.Graph.{less, fits, before_block}
use Rattle.meaning.specs.Words.{node_at}
use Rattle.meaning.specs.Laws.Ascending.{rises_past}
use Rattle.meaning.proofs.Laws.Keys.{less_trans}
use Rattle.meaning.proofs.Laws.Blocks.{before_falls, fits_not_before, fits_between}
use Rattle.meaning.specs.Laws.Bisection.{Falling, leading_is, leading_holds, leading_past}
use Rattle.words.specs.Stops.{Hit, Gap, Stops}
use Rattle.table.specs.declared.class.Span.{Span}
use Rattle.table.specs.Spans.{Rising, Met, block_start}

-- the nodes of a run that come before the block
abbrev pub early : List ℕ → Layout → Span → ℕ → ℕ → ℕ → Bool
early t l s o a k = before_block o a (node_at t l (s.first + k))

module _ {t : List ℕ} {l : Layout} (s : Span) (r : Rising t l s) (o a : ℕ) where
  pub run_rises : (j k : ℕ) → j < k → k < s.count → less (node_at t l (s.first + j)) (node_at t l (s.first + k)) ≡ true
  run_rises = rises_past less_trans (λ k. node_at t l (s.first + k)) s.count r.rising

  pub block_falls : Falling (early t l s o a) s.count
  block_falls j k b c e = before_falls o a _ _ (run_rises j k b c) e

  -- the first that is not early
  pub in_line : (f : Option ℕ) → MatchOption f ((k : ℕ) → 0 ≤ k → k < s.count → early t l s o a k ≡ true) (λ i. (0 ≤ i) × (i < s.count) × (early t l s o a i ≡ false) × ((k : ℕ) → 0 ≤ k → k < i → early t l s o a k ≡ true))
      → unwrap_or f s.count ≡ block_start t l s o a
  unfolding block_start
  in_line None h = leading_is (early t l s o a) s.count s.count (omega arith) (λ k b. h k (omega arith) b) (λ b. absurd (omega arith))
  in_line (Some i) h = let b = h.1 in leading_is (early t l s o a) s.count i (omega arith) (λ k b. h.3 k (omega arith) b) (λ _. h.2)

  -- a node that fits is no earlier than the block
  not_past : (m : ℕ) → fits o a (node_at t l (s.first + m)) ≡ true → block_start t l s o a ≤ m
  not_past m f = unfold block_start in go (ltb m (leading (early t l s o a) s.count)) refl
    where
      go : (b : Bool) → ltb m (leading (early t l s o a) s.count) ≡ b → leading (early t l s o a) s.count ≤ m
      go true e = apart (sym (leading_holds (early t l s o a) s.count m (ltb-true m (leading (early t l s o a) s.count) e)) ∙ fits_not_before o a _ f)
      go false e = ltb-false m (leading (early t l s o a) s.count) e

  module _ {side : ℕ → Ordering → Type 0} (tells : (k : ℕ) (c : Ordering) → side k c → MatchOrdering c (early t l s o a k ≡ true) (fits o a (node_at t l (s.first + k)) ≡ true) (early t l s o a k ≡ false)) where
    -- halving hits a node of the block
    pub hit : (m : ℕ) → Hit side s.count m → Met t l s o a m
    hit m h = record {
      within = let w = h.within in omega arith;
      reached = not_past m fit;
      fit = λ k c d. let w = h.within in fits_between o a _ _ (run_rises k m d w) (unfold block_start in leading_past (early t l s o a) s.count block_falls k c (omega arith)) fit;
    }
      where
        fit : fits o a (node_at t l (s.first + m)) ≡ true
        fit = tells m Equal h.equal

    -- or ends where one would stand
    pub missed : (m : ℕ) → Gap side s.count m → Met t l s o a m
    missed m g = record { within = g.within; reached = let e = same in omega arith; fit = λ k c d. absurd (let e = same in omega arith) }
      where
        before : (k : ℕ) → k < m → early t l s o a k ≡ true
        before k h =
            let w = g.within in
            let e : early t l s o a (m - 1) ≡ true = tells (m - 1) Less (g.before (m - 1) (omega arith)) in
            let u : k ≤ m - 1 = omega arith in
            ⊎_elim (λ q. rw q e) (λ q. block_falls k (m - 1) q (omega arith) e) (eq-or-lt_of_le u)

        same : m ≡ block_start t l s o a
        same = unfold block_start in leading_is (early t l s o a) s.count m g.within before (λ h. tells m Greater (g.after h))

    pub halved : (c : Result ℕ ℕ) → Stops side s.count c → (m : ℕ) → MatchResult c (λ k. m ≡ k) (λ k. m ≡ k) → Met t l s o a m
    halved (Ok k) h m e = rw e (hit k h)
    halved (Err k) g m e = rw e (missed k g)

  -- one step back over a node that fits
  pub nearer : (k : ℕ) → Met t l s o a k → fits o a (node_at t l (s.first + (k - 1))) ≡ true → Met t l s o a (k - 1)
  nearer k w f = record { within = let b = w.within in omega arith; reached = not_past (k - 1) f; fit = λ j b c. w.fit j b (omega arith) }

  -- and none over one that does not
  pub stopped : (k : ℕ) → Met t l s o a k → 0 < k → fits o a (node_at t l (s.first + (k - 1))) ≡ false → k - 1 + 1 ≡ block_start t l s o a
  stopped k w p n = go (ltb (block_start t l s o a) k) refl
    where
      go : (y : Bool) → ltb (block_start t l s o a) k ≡ y → k - 1 + 1 ≡ block_start t l s o a
      go true q = let z = ltb-true (block_start t l s o a) k q in apart (sym (w.fit (k - 1) (omega arith) (omega arith)) ∙ n)
      go false q = let z = ltb-false (block_start t l s o a) k q in let y = w.reached in omega arith
