-- A node's weight, child by child. Assumes nothing.
use Rattle.std.proofs.Common.{ℕ, ◌+◌, ◌*◌, ◌^◌, ◌<◌, ◌≤◌, ◌≡◌, refl, sym, ap, ◌∙◌, List, [], ◌∷◌, ◌++◌, length, get_or, take, bit_or, ⊎_elim, add-one, Fits, w32, arith}
use Rattle.std.proofs.Math.Seq.{take-suc}
use mathlib.Core.List.{Memᴰ as Mem}
use mathlib.Core.List.Memᴰ.{cases_cons, head, not-nil}
use Rattle.meaning.specs.Pattern.{sum, unions, size, free}
use Rattle.meaning.specs.PatternWords.{kind_at, children_of, pattern_of}
use Rattle.meaning.specs.Laws.Sums.{sum_take}
use Rattle.meaning.specs.Laws.Instances.{unions_append, unions_last, unions_from}
use Rattle.meaning.specs.Search.Window.{Places, places_none, places_one, places_or, places_shift}
use Rattle.meaning.proofs.Laws.Sizes.{size_variable, size_operator, free_variable, free_operator}
use Rattle.pattern.specs.declared.good.Pattern.{Pattern}
use Rattle.compiler.specs.declared.load.Weight.{Weight}
use Rattle.compiler.specs.Lists.{weight_at}
use Rattle.compiler.specs.Loaded.{Few, SizedTo, FreeTo}
use Rattle.pattern.proofs.Children.{some, inside, few_children, turn, lower, last}

-- the node itself, and its first x children
pub record SoFar (w : List ℕ) (i x set n : ℕ) : Type 0 where
  pub size : n ≡ 1 + sum (size (pattern_of w)) (take x (children_of w i))
  pub small : n ≤ 1 + 256 * x
  pub vars : Places w set (λ v. Mem v (unions (free (pattern_of w)) (take x (children_of w i))))

pub start : (w : List ℕ) (i : ℕ) → SoFar w i 0 0 1
unfolding sum
start w i = record {
  size = refl;
  small = omega arith;
  vars = places_none w _ (λ v m. let (c, k, u) = unions_from (free (pattern_of w)) [] m in not-nil k);
}

module _ (p : Pattern) (i : ℕ) (h : i < p.parts.counts.n) where
  module _ (z : 0 ≡ kind_at p.parts.words.now i) where
    pub leaf_size : 0 ≡ size (pattern_of p.parts.words.now) i
    leaf_size = sym (size_variable p.nodes (some p) i (inside p i h) (sym z))

    pub leaf_free : (b : ℕ) → b ≡ 2 ^ i → Places p.parts.words.now b (λ v. Mem v (free (pattern_of p.parts.words.now) i))
    leaf_free b q =
        let w = p.parts.words.now in
        let f = free_variable p.nodes (some p) i (inside p i h) (sym z) in
        let m = p.parts.laid.nodes in
        rw q (places_shift (λ v u. rw f (head u)) (λ v u. ⊎_elim (λ x. x) (λ x. absurd (not-nil x)) (cases_cons (rw f at u))) (places_one w i (inside p i h) (omega arith) (sym z)))

  module _ (few : Few p.parts.words.now) (weights : List Weight) (g : SizedTo p.parts.words.now weights i) (f : FreeTo p.parts.words.now weights i) (x set n : ℕ) (s : SoFar p.parts.words.now i x set n) where
    module _ (l : List ℕ) (e : l ≡ children_of p.parts.words.now i) (b : x < length l) where
      pub in_weights : get_or l x 0 < 64
      in_weights = let z = lower p i h l e x b in let a = p.parts.laid.nodes in omega arith

      small_child : (weight_at weights (get_or l x 0)).size ≤ 256
      small_child = let z = lower p i h l e x b in let y = g (get_or l x 0) z in let o = inside p i h in let m = few (get_or l x 0) (omega arith) in omega arith

      pub fits : Fits w32 (n + (weight_at weights (get_or l x 0)).size)
      fits =
          let y = small_child in
          let a = few_children p i h in
          let d = turn p i h l e x b in
          let t = s.small in
          omega arith

      pub grow : (u : ℕ) → u ≡ bit_or set (weight_at weights (get_or l x 0)).free → SoFar p.parts.words.now i (x + 1) u (n + (weight_at weights (get_or l x 0)).size)
      grow u y =
          let c : ℕ = get_or l x 0 in
          let k : x < length (children_of p.parts.words.now i) = rw e at b in
          let q : get_or l x 0 ≡ get_or (children_of p.parts.words.now i) x 0 = rw e refl in
          let m : take (x + 1) (children_of p.parts.words.now i) ≡ take x (children_of p.parts.words.now i) ++ (get_or l x 0 ∷ []) = rw (add-one, take-suc (children_of p.parts.words.now i) x 0 k, q) refl in
          record {
            size =
                let a = s.size in
                let d = g c (lower p i h l e x b) in
                let z = sum_take (size (pattern_of p.parts.words.now)) (children_of p.parts.words.now i) x k in
                let o : size (pattern_of p.parts.words.now) (get_or (children_of p.parts.words.now i) x 0) ≡ size (pattern_of p.parts.words.now) c = ap (size (pattern_of p.parts.words.now)) (sym q) in
                omega arith;
            small = let a = s.small in let d = small_child in omega arith;
            vars = rw y (places_shift
                (λ v j. rw m (unions_append (free (pattern_of p.parts.words.now)) (take x (children_of p.parts.words.now i)) c v j))
                (λ v j. unions_last (free (pattern_of p.parts.words.now)) (take x (children_of p.parts.words.now i)) c v (rw m at j))
                (places_or s.vars (f c (lower p i h l e x b))));
          }

  -- all its children
  module _ (x set n : ℕ) (s : SoFar p.parts.words.now i x set n) (k : 1 ≡ kind_at p.parts.words.now i) (l : List ℕ) (e : l ≡ children_of p.parts.words.now i) (a : length l ≤ x) where
    operator : kind_at p.parts.words.now i ≡ 0 → ⊥
    operator z = omega arith

    pub done_size : n ≡ size (pattern_of p.parts.words.now) i
    done_size = rw (last p i h l e x a) at s.size ∙ sym (size_operator p.nodes (some p) i (inside p i h) operator)

    pub done_free : Places p.parts.words.now set (λ v. Mem v (free (pattern_of p.parts.words.now) i))
    done_free =
        let d = free_operator p.nodes (some p) i (inside p i h) operator in
        let q = last p i h l e x a in
        places_shift (λ v j. rw d (rw q at j)) (λ v j. rw q (rw d at j)) s.vars
