-- Each computed test of a pattern or a multipattern is true exactly if its rule holds. Assumes nothing.
use Rattle.std.proofs.Common.{ℕ, zero, suc, ◌+◌, ◌-◌, ◌<◌, sym, ◌∙◌, List, [], ◌∷◌, map, Bool, lt-ltb, ltb-true, le-leb, leb-true, eq-eqb, eqb-true, arith}
use Rattle.std.proofs.Math.Path.{◌≡◌, refl}
use mathlib.Core.List.{nil≢cons, cons≢nil, head-eq_of_cons-eq, tail-eq_of_cons-eq}
use Rattle.std.proofs.Math.Bool.{true, false, cond, not}
use Rattle.std.proofs.Math.Dec.{eqb, ltb}
use borrow.Author.Tests.{not-true}
use Rattle.meaning.specs.Tests.{and, all_below, and_left, and_right, and_both, all_at, all_of, same_true, same_is, apart, not_true_false}
use Rattle.meaning.specs.Ranges.{from}
use Rattle.meaning.specs.Words.{word}
use Rattle.meaning.specs.Pattern.{var, op}
use Rattle.meaning.specs.PatternWords.{kind_at, number_at, degree_at, start_at, child_of, children_of, pnode_at, pattern_of}
use Rattle.meaning.specs.GoodPattern.{PatternLimits, PatternShape, Same, PatternNodes, Downward, MultiLimits, MultiShape, IsLone}
use Rattle.meaning.specs.PatternRefusal.{some_below, good_pattern_limits, good_pattern_shape, good_below, good_part_at, good_parts, is_used, good_use, is_same, is_new, good_once, good_pattern_nodes, good_multi_limits, good_entry_at, good_multi_shape, lone_variable}
use Rattle.meaning.specs.Laws.Joins.{joined_within}
use Rattle.meaning.proofs.Laws.Rules.{joined}

-- some number below n passes
pub some_found : (p : ℕ → Bool) (n : ℕ) → some_below p n ≡ true → (x : ℕ) × (x < n) × (p x ≡ true)
unfolding some_below
some_found p n h = search_up n (not-true _ h)
  where
    search_up : (n : ℕ) → all_below (λ x. not (p x)) n ≡ false → (x : ℕ) × (x < n) × (p x ≡ true)
    search_up zero e = apart (unfold all_below in e)
    search_up (suc n) e = go (p n) refl (λ d. search_up n d) e
      where
        go : (b : Bool) → p n ≡ b → (all_below (λ x. not (p x)) n ≡ false → (x : ℕ) × (x < n) × (p x ≡ true)) → all_below (λ x. not (p x)) (suc n) ≡ false → (x : ℕ) × (x < suc n) × (p x ≡ true)
        go true q f e = (n, omega arith, q)
        go false q f e = let (x, l, r) = f (unfold all_below and in (rw q at e)) in (x, omega arith, r)

pub found_some : (p : ℕ → Bool) (n x : ℕ) → x < n → p x ≡ true → some_below p n ≡ true
unfolding some_below
found_some p n x l h = go (all_below (λ x. not (p x)) n) refl
  where
    go : (b : Bool) → all_below (λ x. not (p x)) n ≡ b → not b ≡ true
    go true e = apart (sym h ∙ not-true (p x) (all_at (λ x. not (p x)) n e x l))
    go false e = refl

module _ (w : List ℕ) where
  pub pattern_limits : good_pattern_limits w ≡ true → PatternLimits w
  unfolding good_pattern_limits
  pattern_limits h = let a = and_right _ _ h in record { some = leb-true _ _ (and_left _ _ h); nodes = leb-true _ _ (and_left _ _ a); children = leb-true _ _ (and_right _ _ a) }

  pub is_pattern_limits : PatternLimits w → good_pattern_limits w ≡ true
  unfolding good_pattern_limits
  is_pattern_limits r = and_both (le-leb _ _ r.some) (and_both (le-leb _ _ r.nodes) (le-leb _ _ r.children))

  pub pattern_shape : good_pattern_shape w ≡ true → PatternShape w
  unfolding good_pattern_shape
  pattern_shape h = let a = and_right _ _ h in record { nodes = eqb-true _ _ (and_left _ _ h); children = eqb-true _ _ (and_left _ _ a); long = eqb-true _ _ (and_right _ _ a) }

  pub is_pattern_shape : PatternShape w → good_pattern_shape w ≡ true
  unfolding good_pattern_shape
  is_pattern_shape r = and_both (eq-eqb _ _ r.nodes) (and_both (eq-eqb _ _ r.children) (eq-eqb _ _ r.long))

  -- a variable has no children
  leaf_test : (k a : ℕ) → cond (eqb k 0) (eqb a 0) true ≡ true → k ≡ 0 → a ≡ 0
  leaf_test k a h e = eqb-true a 0 (rw (eq-eqb k 0 e) at h)

  test_leaf : (k a : ℕ) → (k ≡ 0 → a ≡ 0) → cond (eqb k 0) (eqb a 0) true ≡ true
  test_leaf k a f = go (eqb k 0) refl
    where
      go : (b : Bool) → eqb k 0 ≡ b → cond b (eqb a 0) true ≡ true
      go true e = eq-eqb a 0 (f (eqb-true k 0 e))
      go false e = refl

  pub same : (i j : ℕ) → is_same w i j ≡ true → Same w i j
  unfolding is_same
  same i j h = let a = and_right _ _ h in record { kind = eqb-true _ _ (and_left _ _ h); number = eqb-true _ _ (and_left _ _ a); children = same_true _ _ (and_right _ _ a) }

  pub is_same_lem : (i j : ℕ) → Same w i j → is_same w i j ≡ true
  unfolding is_same
  is_same_lem i j s = and_both (eq-eqb _ _ s.kind) (and_both (eq-eqb _ _ s.number) (same_is _ _ s.children))

  -- each node by itself
  pub part_at_lem : good_parts w ≡ true → (i : ℕ) → i < word w 0 → good_part_at w i ≡ true
  unfolding good_parts
  part_at_lem h = all_at (good_part_at w) (word w 0) (and_left _ _ h)

  pub part_nodes : good_parts w ≡ true → Downward w
  unfolding good_parts good_part_at good_below
  part_nodes h =
      let at : (i : ℕ) → i < word w 0 → good_part_at w i ≡ true = part_at_lem h in
      record {
        kind = λ i b. leb-true _ _ (and_left _ _ (at i b));
        leaf = λ i b e. leaf_test _ _ (and_left _ _ (and_right _ _ (at i b))) e;
        arity = λ i b. leb-true _ _ (and_left _ _ (and_right _ _ (and_right _ _ (at i b))));
        joined = joined (start_at w) (degree_at w) (word w 0) (word w 1) (λ i b. and_left _ _ (and_right _ _ (and_right _ _ (and_right _ _ (at i b))))) (and_right _ _ h);
        below = λ i x b c. ltb-true _ _ (all_at (λ x. ltb (child_of w (start_at w i + x)) i) (degree_at w i) (and_right _ _ (and_right _ _ (and_right _ _ (and_right _ _ (and_right _ _ (at i b)))))) x c);
      }

  pub pattern_nodes : good_pattern_nodes w ≡ true → PatternNodes w
  unfolding good_pattern_nodes good_use is_used good_once is_new
  pattern_nodes h =
      let d = part_nodes (and_left _ _ h) in
      let rest = and_right _ _ h in
      record {
        kind = d.kind;
        leaf = d.leaf;
        arity = d.arity;
        joined = d.joined;
        below = d.below;
        used = λ i b. used_at (all_at (is_used w) (word w 0 - 1) (and_left _ _ rest) i (omega arith));
        once = λ i j l b s. apart (sym (is_same_lem i j s) ∙ not-true _ (all_at (λ i. not (is_same w i j)) j (all_at (is_new w) (word w 0) (and_right _ _ rest) j b) i l));
      }
    where
      used_at : {i : ℕ} → is_used w i ≡ true → (x : ℕ) × (x < word w 1) × (child_of w x ≡ i)
      used_at {i} h = let (x, l, e) = some_found (λ x. eqb (child_of w x) i) (word w 1) h in (x, l, eqb-true _ _ e)

  pub is_pattern_nodes : PatternNodes w → good_pattern_nodes w ≡ true
  unfolding good_pattern_nodes good_parts good_part_at good_below good_use is_used good_once is_new
  is_pattern_nodes r = and_both
      (and_both (all_of (good_part_at w) (word w 0) (λ i b. and_both (le-leb _ _ (r.kind i b)) (and_both (test_leaf _ _ (r.leaf i b)) (and_both (le-leb _ _ (r.arity i b))
      (and_both (eq-eqb _ _ (r.joined.starts i b)) (and_both (le-leb _ _ (joined_within r.joined i b)) (all_of (λ x. ltb (child_of w (start_at w i + x)) i) (degree_at w i) (λ x c. lt-ltb _ _ (r.below i x b c)))))))))
      (eq-eqb _ _ r.joined.ends))
      (and_both (all_of (is_used w) (word w 0 - 1) (λ i b. let (x, l, e) = r.used i (omega arith) in found_some (λ x. eqb (child_of w x) i) (word w 1) x l (eq-eqb _ _ e)))
      (all_of (is_new w) (word w 0) (λ j b. all_of (λ i. not (is_same w i j)) j (λ i l. differs i j (r.once i j l b)))))
    where
      differs : (i j : ℕ) → (Same w i j → ⊥) → not (is_same w i j) ≡ true
      differs i j n = rw (not_true_false (is_same w i j) (λ h. n (same i j h)))

  pub multi_limits : good_multi_limits w ≡ true → MultiLimits w
  unfolding good_multi_limits
  multi_limits h = record { some = leb-true _ _ (and_left _ _ h); patterns = leb-true _ _ (and_right _ _ h) }

  pub is_multi_limits : MultiLimits w → good_multi_limits w ≡ true
  unfolding good_multi_limits
  is_multi_limits r = and_both (le-leb _ _ r.some) (le-leb _ _ r.patterns)

  pub multi_shape : good_multi_shape w ≡ true → MultiShape w
  unfolding good_multi_shape good_entry_at
  multi_shape h = let a = and_right _ _ h in let b = and_right _ _ a in record {
    records = eqb-true _ _ (and_left _ _ h);
    patterns = eqb-true _ _ (and_left _ _ a);
    joined = record { starts = λ i c. eqb-true _ _ (all_at (good_entry_at w) (word w 0) (and_left _ _ b) i c); ends = eqb-true _ _ (and_right _ _ b) };
  }

  pub is_multi_shape : MultiShape w → good_multi_shape w ≡ true
  unfolding good_multi_shape good_entry_at
  is_multi_shape r = and_both (eq-eqb _ _ r.records) (and_both (eq-eqb _ _ r.patterns)
      (and_both (all_of (good_entry_at w) (word w 0) (λ i c. eq-eqb _ _ (r.joined.starts i c))) (eq-eqb _ _ r.joined.ends)))

  pub lone : lone_variable w ≡ true → IsLone (pattern_of w)
  unfolding lone_variable IsLone pattern_of from pnode_at
  lone h =
      let a : word w 0 ≡ 1 = eqb-true _ _ (and_left _ _ h) in
      let b : eqb (kind_at w 0) 0 ≡ true = and_right _ _ h in
      (number_at w 0, rw (a, b))

  pub is_lone : IsLone (pattern_of w) → lone_variable w ≡ true
  unfolding lone_variable IsLone pattern_of from pnode_at
  is_lone s = go (word w 0) refl s.1
    where
      kind : (b : Bool) → eqb (kind_at w 0) 0 ≡ b → cond b (var (number_at w 0)) (op (number_at w 0) (children_of w 0)) ≡ var s.0 → b ≡ true
      kind true e h = refl
      kind false e h = absurd (let z : ◌≡◌ {A = ℕ} 0 1 = cc in omega arith)

      go : (n : ℕ) → word w 0 ≡ n → map (pnode_at w) (from 0 n) ≡ var s.0 ∷ [] → and (eqb (word w 0) 1) (eqb (kind_at w 0) 0) ≡ true
      go zero e h = absurd (nil≢cons h)
      go (suc zero) e h = and_both (eq-eqb _ _ e) (kind (eqb (kind_at w 0) 0) refl (head-eq_of_cons-eq h))
      go (suc (suc n)) e h = absurd (cons≢nil (tail-eq_of_cons-eq h))
