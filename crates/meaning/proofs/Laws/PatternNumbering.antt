-- The computed refusal numbers of patterns and multipatterns are document 01's, one for all words. Assumes nothing.
use Rattle.std.proofs.Common.{ℕ, zero, suc, ◌<◌, ◌≤◌, ◌≡◌, List, ◌↔◌, Bool, cond, eqb, ltb, sym, ap, subst, ◌∙◌, ⊎_elim, arith, eq-or-lt_of_le, le_of_suc-le-suc, ltb-true, ltb-false, lt-ltb, le-ltb, leb-true, leb-false, le-leb, eqb-true, ne_eqb}
use Rattle.std.proofs.Math.Path.{refl}
use Rattle.std.proofs.Math.Bool.{true, false}
use Rattle.std.proofs.Math.ListN.{length}
use Rattle.std.proofs.Math.Dec.{leb}
use borrow.Author.Tests.{lt-leb, eqb-false}
use Rattle.meaning.specs.Tests.{apart, not_true_false}
use Rattle.meaning.specs.Words.{word}
use Rattle.meaning.specs.Pattern.{occurrences}
use Rattle.meaning.specs.PatternWords.{pattern_of, part_at}
use Rattle.meaning.specs.GoodPattern.{PatternLimits, PatternShape, PatternNodes, GoodPattern, PatternNumbered, MultiLimits, MultiShape, occurrences_to, GoodRight, GoodMulti, RightNumbered, MultiNumbered}
use Rattle.meaning.specs.PatternRefusal.{first_below, good_pattern_limits, good_pattern_shape, good_pattern_nodes, pattern_refusal, good_multi_limits, good_multi_shape, lone_variable, parts_refusal, right_refusal, multi_refusal}
use Rattle.meaning.proofs.Laws.PatternRules.{pattern_limits, is_pattern_limits, pattern_shape, is_pattern_shape, pattern_nodes, is_pattern_nodes, multi_limits, is_multi_limits, multi_shape, is_multi_shape, lone, is_lone}

never : {b : Bool} {P : Type 0} → b ≡ false → (P → b ≡ true) → P → ⊥
never e f p = apart (sym (f p) ∙ e)

module _ (w : List ℕ) where
  -- the number is right
  pub pattern_numbered : PatternNumbered w (pattern_refusal w)
  unfolding pattern_refusal
  pattern_numbered = head (ltb (length w) 4) refl
    where
      few : 4 ≤ length w → PatternLimits w → PatternShape w → PatternNodes w → (b : Bool) → leb (occurrences (pattern_of w)) 256 ≡ b → PatternNumbered w (cond b 0 8)
      few h l s n true e = PatternNumbered.good (record { header = h; limits = l; shape = s; nodes = n; few = leb-true _ _ e })
      few h l s n false e = PatternNumbered.many h l s n (leb-false _ _ e)

      noded : 4 ≤ length w → PatternLimits w → PatternShape w → (b : Bool) → good_pattern_nodes w ≡ b → PatternNumbered w (cond b (cond (leb (occurrences (pattern_of w)) 256) 0 8) 9)
      noded h l s true e = few h l s (pattern_nodes w e) (leb (occurrences (pattern_of w)) 256) refl
      noded h l s false e = PatternNumbered.node_broken h l s (never e (is_pattern_nodes w))

      shaped : 4 ≤ length w → PatternLimits w → (b : Bool) → good_pattern_shape w ≡ b → PatternNumbered w (cond b (cond (good_pattern_nodes w) (cond (leb (occurrences (pattern_of w)) 256) 0 8) 9) 7)
      shaped h l true e = noded h l (pattern_shape w e) (good_pattern_nodes w) refl
      shaped h l false e = PatternNumbered.misplaced h l (never e (is_pattern_shape w))

      limited : 4 ≤ length w → (b : Bool) → good_pattern_limits w ≡ b → PatternNumbered w (cond b (cond (good_pattern_shape w) (cond (good_pattern_nodes w) (cond (leb (occurrences (pattern_of w)) 256) 0 8) 9) 7) 8)
      limited h true e = shaped h (pattern_limits w e) (good_pattern_shape w) refl
      limited h false e = PatternNumbered.over h (never e (is_pattern_limits w))

      head : (b : Bool) → ltb (length w) 4 ≡ b → PatternNumbered w (cond b 7 (cond (good_pattern_limits w) (cond (good_pattern_shape w) (cond (good_pattern_nodes w) (cond (leb (occurrences (pattern_of w)) 256) 0 8) 9) 7) 8))
      head true e = PatternNumbered.short (ltb-true _ _ e)
      head false e = limited (ltb-false _ _ e) (good_pattern_limits w) refl

  -- and no other is
  pub pattern_numbered_once : (n : ℕ) → PatternNumbered w n → pattern_refusal w ≡ n
  unfolding pattern_refusal
  pattern_numbered_once n (PatternNumbered.good g) = rw (le-ltb _ _ g.header, is_pattern_limits w g.limits, is_pattern_shape w g.shape, is_pattern_nodes w g.nodes, le-leb _ _ g.few)
  pattern_numbered_once n (PatternNumbered.short h) = rw (lt-ltb _ _ h)
  pattern_numbered_once n (PatternNumbered.over h l) = rw (le-ltb _ _ h, not_true_false (good_pattern_limits w) (λ e. l (pattern_limits w e)))
  pattern_numbered_once n (PatternNumbered.misplaced h l s) = rw (le-ltb _ _ h, is_pattern_limits w l, not_true_false (good_pattern_shape w) (λ e. s (pattern_shape w e)))
  pattern_numbered_once n (PatternNumbered.node_broken h l s m) = rw (le-ltb _ _ h, is_pattern_limits w l, is_pattern_shape w s, not_true_false (good_pattern_nodes w) (λ e. m (pattern_nodes w e)))
  pattern_numbered_once n (PatternNumbered.many h l s m f) = rw (le-ltb _ _ h, is_pattern_limits w l, is_pattern_shape w s, is_pattern_nodes w m, lt-leb _ _ f)

  -- 0 exactly for good patterns
  pub pattern_zero_good : (pattern_refusal w ≡ 0) ↔ GoodPattern w
  pattern_zero_good = (λ e. read (subst (PatternNumbered w) e pattern_numbered), λ g. pattern_numbered_once 0 (PatternNumbered.good g))
    where
      read : PatternNumbered w 0 → GoodPattern w
      read (PatternNumbered.good g) = g

-- the first that is not 0, and where
first_none : (f : ℕ → ℕ) (n : ℕ) → first_below f n ≡ 0 → (i : ℕ) → i < n → f i ≡ 0
unfolding first_below
first_none f zero e i h = absurd (omega arith)
first_none f (suc n) e i h = go (eqb (first_below f n) 0) refl e (λ d j l. first_none f n d j l)
  where
    go : (b : Bool) → eqb (first_below f n) 0 ≡ b → cond b (f n) (first_below f n) ≡ 0 → (first_below f n ≡ 0 → (j : ℕ) → j < n → f j ≡ 0) → f i ≡ 0
    go true q e r = ⊎_elim (λ d. rw d e) (λ l. r (eqb-true _ _ q) i l) (eq-or-lt_of_le (le_of_suc-le-suc h))
    go false q e r = absurd (eqb-false _ _ q e)

first_some : (f : ℕ → ℕ) (n : ℕ) → (first_below f n ≡ 0 → ⊥) → (i : ℕ) × (i < n) × ((j : ℕ) → j < i → f j ≡ 0) × (first_below f n ≡ f i)
first_some f zero d = absurd (d (unfold first_below in refl))
first_some f (suc n) d = go (eqb (first_below f n) 0) refl (λ e. first_some f n e)
  where
    at : (b : Bool) → eqb (first_below f n) 0 ≡ b → first_below f (suc n) ≡ cond b (f n) (first_below f n)
    at b q = unfold first_below in rw q

    go : (b : Bool) → eqb (first_below f n) 0 ≡ b → ((first_below f n ≡ 0 → ⊥) → (i : ℕ) × (i < n) × ((j : ℕ) → j < i → f j ≡ 0) × (first_below f n ≡ f i))
        → (i : ℕ) × (i < suc n) × ((j : ℕ) → j < i → f j ≡ 0) × (first_below f (suc n) ≡ f i)
    go true q r = (n, omega arith, λ j l. first_none f n (eqb-true _ _ q) j l, at true q)
    go false q r = let (i, l, z, e) = r (eqb-false _ _ q) in (i, omega arith, z, at false q ∙ e)

pub all_zero : (f : ℕ → ℕ) (n : ℕ) → ((i : ℕ) → i < n → f i ≡ 0) → first_below f n ≡ 0
unfolding first_below
all_zero f zero h = refl
all_zero f (suc n) h = rw (all_zero f n (λ i l. h i (omega arith))) (h n (omega arith))

pub first_at_lem : (f : ℕ → ℕ) (n i : ℕ) → i < n → ((j : ℕ) → j < i → f j ≡ 0) → (f i ≡ 0 → ⊥) → first_below f n ≡ f i
unfolding first_below
first_at_lem f zero i l z d = absurd (omega arith)
first_at_lem f (suc n) i l z d = ⊎_elim here (λ m. there (first_at_lem f n i m z d)) (eq-or-lt_of_le (le_of_suc-le-suc l))
  where
    here : i ≡ n → cond (eqb (first_below f n) 0) (f n) (first_below f n) ≡ f i
    here e = rw (all_zero f n (λ j m. z j (rw e m))) (ap f (sym e))

    there : first_below f n ≡ f i → cond (eqb (first_below f n) 0) (f n) (first_below f n) ≡ f i
    there q = rw (q, ne_eqb (f i) 0 d)

module _ (w : List ℕ) where
  pub right_numbered : RightNumbered w (right_refusal w)
  unfolding right_refusal parts_refusal
  right_numbered = head (ltb (length w) 3) refl
    where
      few : 3 ≤ length w → MultiLimits w → MultiShape w → ((i : ℕ) → i < word w 0 → GoodPattern (part_at w i)) → (b : Bool) → leb (occurrences_to w (word w 0)) 256 ≡ b → RightNumbered w (cond b 0 8)
      few h l s g true e = RightNumbered.good (record { header = h; limits = l; shape = s; each = g; few = leb-true _ _ e })
      few h l s g false e = RightNumbered.many h l s g (leb-false _ _ e)

      parts : 3 ≤ length w → MultiLimits w → MultiShape w → (b : Bool) → eqb (first_below (λ i. pattern_refusal (part_at w i)) (word w 0)) 0 ≡ b
          → RightNumbered w (cond b (cond (leb (occurrences_to w (word w 0)) 256) 0 8) (first_below (λ i. pattern_refusal (part_at w i)) (word w 0)))
      parts h l s true e = few h l s (λ i b. (pattern_zero_good (part_at w i)).0 (first_none (λ i. pattern_refusal (part_at w i)) (word w 0) (eqb-true _ _ e) i b)) (leb (occurrences_to w (word w 0)) 256) refl
      parts h l s false e =
          let n = eqb-false (first_below (λ i. pattern_refusal (part_at w i)) (word w 0)) 0 e in
          let (i, b, z, q) = first_some (λ i. pattern_refusal (part_at w i)) (word w 0) n in
          RightNumbered.broken h l s i (first_below (λ i. pattern_refusal (part_at w i)) (word w 0)) b (λ j m. (pattern_zero_good (part_at w j)).0 (z j m)) (subst (PatternNumbered (part_at w i)) (sym q) (pattern_numbered (part_at w i))) n

      shaped : 3 ≤ length w → MultiLimits w → (b : Bool) → good_multi_shape w ≡ b → RightNumbered w (cond b (parts_refusal w) 10)
      shaped h l true e = parts h l (multi_shape w e) (eqb (first_below (λ i. pattern_refusal (part_at w i)) (word w 0)) 0) refl
      shaped h l false e = RightNumbered.misplaced h l (never e (is_multi_shape w))

      limited : 3 ≤ length w → (b : Bool) → good_multi_limits w ≡ b → RightNumbered w (cond b (cond (good_multi_shape w) (parts_refusal w) 10) 8)
      limited h true e = shaped h (multi_limits w e) (good_multi_shape w) refl
      limited h false e = RightNumbered.over h (never e (is_multi_limits w))

      head : (b : Bool) → ltb (length w) 3 ≡ b → RightNumbered w (cond b 10 (cond (good_multi_limits w) (cond (good_multi_shape w) (parts_refusal w) 10) 8))
      head true e = RightNumbered.short (ltb-true _ _ e)
      head false e = limited (ltb-false _ _ e) (good_multi_limits w) refl

  pub right_numbered_once : (n : ℕ) → RightNumbered w n → right_refusal w ≡ n
  unfolding right_refusal parts_refusal
  right_numbered_once n (RightNumbered.good g) = rw (
    le-ltb _ _ g.header,
    is_multi_limits w g.limits,
    is_multi_shape w g.shape,
    all_zero (λ i. pattern_refusal (part_at w i)) (word w 0) (λ i b. (pattern_zero_good (part_at w i)).1 (g.each i b)),
    le-leb _ _ g.few,
  )
  right_numbered_once n (RightNumbered.short h) = rw (lt-ltb _ _ h)
  right_numbered_once n (RightNumbered.over h l) = rw (le-ltb _ _ h, not_true_false (good_multi_limits w) (λ e. l (multi_limits w e)))
  right_numbered_once n (RightNumbered.misplaced h l s) = rw (le-ltb _ _ h, is_multi_limits w l, not_true_false (good_multi_shape w) (λ e. s (multi_shape w e)))
  right_numbered_once n (RightNumbered.broken h l s i m b z q d) =
      let e = pattern_numbered_once (part_at w i) n q in
      let r = first_at_lem (λ i. pattern_refusal (part_at w i)) (word w 0) i b (λ j c. (pattern_zero_good (part_at w j)).1 (z j c)) (λ y. d (sym e ∙ y)) ∙ e in
      rw (le-ltb _ _ h, is_multi_limits w l, is_multi_shape w s, r, ne_eqb n 0 d)
  right_numbered_once n (RightNumbered.many h l s g f) = rw (
    le-ltb _ _ h,
    is_multi_limits w l,
    is_multi_shape w s,
    all_zero (λ i. pattern_refusal (part_at w i)) (word w 0) (λ i b. (pattern_zero_good (part_at w i)).1 (g i b)),
    lt-leb _ _ f,
  )

  pub right_zero_good : (right_refusal w ≡ 0) ↔ GoodRight w
  right_zero_good = (λ e. read (subst (RightNumbered w) e right_numbered), λ g. right_numbered_once 0 (RightNumbered.good g))
    where
      zero_is : (n : ℕ) → n ≡ 0 → RightNumbered w n → GoodRight w
      zero_is n e (RightNumbered.good g) = g
      zero_is n e (RightNumbered.short h) = absurd (omega arith)
      zero_is n e (RightNumbered.over h l) = absurd (omega arith)
      zero_is n e (RightNumbered.misplaced h l s) = absurd (omega arith)
      zero_is n e (RightNumbered.broken h l s i m b z q d) = absurd (d e)
      zero_is n e (RightNumbered.many h l s g f) = absurd (omega arith)

      read : RightNumbered w 0 → GoodRight w
      read r = zero_is 0 refl r

  pub multi_numbered : MultiNumbered w (multi_refusal w)
  unfolding multi_refusal
  multi_numbered = go (eqb (right_refusal w) 0) refl
    where
      first : GoodRight w → (b : Bool) → lone_variable (part_at w 0) ≡ b → MultiNumbered w (cond b 11 0)
      first g true e = MultiNumbered.lone g (lone (part_at w 0) e)
      first g false e = MultiNumbered.good (record { right = g; first = λ s. apart (sym (is_lone (part_at w 0) s) ∙ e) })

      go : (b : Bool) → eqb (right_refusal w) 0 ≡ b → MultiNumbered w (cond b (cond (lone_variable (part_at w 0)) 11 0) (right_refusal w))
      go true e = first (right_zero_good.0 (eqb-true _ _ e)) (lone_variable (part_at w 0)) refl
      go false e = MultiNumbered.refused (right_refusal w) right_numbered (eqb-false _ _ e)

  pub multi_numbered_once : (n : ℕ) → MultiNumbered w n → multi_refusal w ≡ n
  unfolding multi_refusal
  multi_numbered_once n (MultiNumbered.good g) = rw (right_zero_good.1 g.right, not_true_false (lone_variable (part_at w 0)) (λ e. g.first (lone (part_at w 0) e)))
  multi_numbered_once n (MultiNumbered.lone g s) = rw (right_zero_good.1 g, is_lone (part_at w 0) s)
  multi_numbered_once n (MultiNumbered.refused m r d) = rw (right_numbered_once n r, ne_eqb n 0 d)

  pub multi_zero_good : (multi_refusal w ≡ 0) ↔ GoodMulti w
  multi_zero_good = (λ e. zero_is (multi_refusal w) e multi_numbered, λ g. multi_numbered_once 0 (MultiNumbered.good g))
    where
      zero_is : (n : ℕ) → n ≡ 0 → MultiNumbered w n → GoodMulti w
      zero_is n e (MultiNumbered.good g) = g
      zero_is n e (MultiNumbered.lone g s) = absurd (omega arith)
      zero_is n e (MultiNumbered.refused m r d) = absurd (d e)
