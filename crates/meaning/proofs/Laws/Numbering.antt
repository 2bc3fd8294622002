-- The computed refusal number is document 01's, and there is one for all words. Assumes nothing.
use Rattle.std.proofs.Common.{ℕ, ◌≤◌, ◌≡◌, refl, List, Bool, true, false, cond, ◌↔◌, length, ltb, sym, subst, ◌∙◌, ltb-true, ltb-false, lt-ltb, le-ltb}
use Rattle.meaning.specs.declared.Layout.{Layout}
use Rattle.meaning.specs.Tests.{apart, not_true_false}
use Rattle.meaning.specs.Words.{layout_of}
use Rattle.meaning.specs.Good.{Good, Limits, Shape, Numbered, good, short, over, misplaced, find_broken, class_broken, node_broken, index_broken}
use Rattle.meaning.specs.Refusal.{good_limits, good_shape, good_find, good_classes, good_nodes, good_index, areas_refusal, refusal_of}
use Rattle.meaning.proofs.Laws.Rules.{limits, is_limits, shape, is_shape, find, is_find, classes, is_classes, nodes, is_nodes, index, is_index}

never : {b : Bool} {P : Type 0} → b ≡ false → (P → b ≡ true) → P → ⊥
never e f p = apart (sym (f p) ∙ e)

-- the number is right
pub numbered : (t : List ℕ) → Numbered t (refusal_of t)
unfolding refusal_of areas_refusal
numbered t = head (ltb (length t) 9) refl
  where
    L : Layout
    L = layout_of t

    areas : 9 ≤ length t → Limits t → Shape t → (f c n i : Bool) → good_find t L ≡ f → good_classes t L ≡ c → good_nodes t L ≡ n → good_index t L ≡ i
        → Numbered t (cond f (cond c (cond n (cond i 0 6) 5) 4) 3)
    areas h l s false c n i e d k j = find_broken h l s (never e (is_find t L))
    areas h l s true false n i e d k j = class_broken h l s (find t L e) (never d (is_classes t L))
    areas h l s true true false i e d k j = node_broken h l s (find t L e) (classes t L d) (never k (is_nodes t L (classes t L d)))
    areas h l s true true true false e d k j = index_broken h l s (find t L e) (classes t L d) (nodes t L k (classes t L d)) (never j (is_index t L))
    areas h l s true true true true e d k j = good (record {
      header = h;
      limits = l;
      shape = s;
      find = find t L e;
      classes = classes t L d;
      nodes = nodes t L k (classes t L d);
      index = index t L j;
    })

    shaped : 9 ≤ length t → Limits t → (b : Bool) → good_shape t ≡ b → Numbered t (cond b (areas_refusal t L) 1)
    shaped h l true e = areas h l (shape t e) _ _ _ _ refl refl refl refl
    shaped h l false e = misplaced h l (never e (is_shape t))

    limited : 9 ≤ length t → (b : Bool) → good_limits t ≡ b → Numbered t (cond b (cond (good_shape t) (areas_refusal t L) 1) 2)
    limited h true e = shaped h (limits t e) (good_shape t) refl
    limited h false e = over h (never e (is_limits t))

    head : (b : Bool) → ltb (length t) 9 ≡ b → Numbered t (cond b 1 (cond (good_limits t) (cond (good_shape t) (areas_refusal t L) 1) 2))
    head true e = short (ltb-true _ _ e)
    head false e = limited (ltb-false _ _ e) (good_limits t) refl

-- and no other is
pub numbered_once : (t : List ℕ) (n : ℕ) → Numbered t n → refusal_of t ≡ n
unfolding refusal_of areas_refusal
numbered_once t n (good g) = let c = g.classes in
    rw (le-ltb _ _ g.header, is_limits t g.limits, is_shape t g.shape, is_find t (layout_of t) g.find, is_classes t (layout_of t) c, is_nodes t (layout_of t) c g.nodes, is_index t (layout_of t) g.index)
numbered_once t n (short h) = rw (lt-ltb _ _ h)
numbered_once t n (over h l) = rw (le-ltb _ _ h, not_true_false (good_limits t) (λ e. l (limits t e)))
numbered_once t n (misplaced h l s) = rw (le-ltb _ _ h, is_limits t l, not_true_false (good_shape t) (λ e. s (shape t e)))
numbered_once t n (find_broken h l s f) = rw (le-ltb _ _ h, is_limits t l, is_shape t s, not_true_false (good_find t (layout_of t)) (λ e. f (find t (layout_of t) e)))
numbered_once t n (class_broken h l s f c) = rw (le-ltb _ _ h, is_limits t l, is_shape t s, is_find t (layout_of t) f, not_true_false (good_classes t (layout_of t)) (λ e. c (classes t (layout_of t) e)))
numbered_once t n (node_broken h l s f c d) = rw (le-ltb _ _ h, is_limits t l, is_shape t s, is_find t (layout_of t) f, is_classes t (layout_of t) c, not_true_false (good_nodes t (layout_of t)) (λ e. d (nodes t (layout_of t) e c)))
numbered_once t n (index_broken h l s f c d i) = rw (le-ltb _ _ h, is_limits t l, is_shape t s, is_find t (layout_of t) f, is_classes t (layout_of t) c, is_nodes t (layout_of t) c d, not_true_false (good_index t (layout_of t)) (λ e. i (index t (layout_of t) e)))

-- 0 exactly for good tables
pub zero_good : (t : List ℕ) → (refusal_of t ≡ 0) ↔ Good t
zero_good t = (λ e. read (subst (Numbered t) e (numbered t)), λ g. numbered_once t 0 (good g))
  where
    read : Numbered t 0 → Good t
    read (good g) = g
