-- Sizes and variables of a good pattern's nodes, from their children's; no size is over the limit. Assumes nothing.
use Rattle.std.proofs.Common.{ℕ, zero, suc, ◌+◌, ◌*◌, ◌-◌, ◌<◌, ◌≤◌, ◌≡◌, List, [], ◌∷◌, Bool, true, false, ltb, ap, ◌∙◌, ⊎_elim, ltb-true, ltb-false, arith}
use Rattle.std.proofs.Math.Path.{refl}
use mathlib.Core.List.Memᴰ.{cases_cons, head, not-nil, tail}
use mathlib.Core.List.{Memᴰ as Mem}
use Rattle.std.proofs.Math.ListN.{length}
use Rattle.meaning.specs.Words.{word}
use Rattle.meaning.specs.Pattern.{PNode, var, op, Pattern, node_of, kids_of, Ordered, sum, unions, free, size_of, size, occ, occurrences}
use Rattle.meaning.specs.PatternWords.{kind_at, number_at, children_of, pnode_at, pattern_of}
use Rattle.meaning.specs.GoodPattern.{PatternNodes, Downward, GoodPattern}
use Rattle.meaning.specs.Laws.Built.{Local, value_at}
use Rattle.meaning.specs.Laws.Instances.{sum_same, free_var, free_op, occ_op}
use Rattle.meaning.proofs.Laws.Patterns.{pattern_length, pattern_at, pnode_var, pnode_op, kids_of_lem, child_below, ordered, occ_at, parent, downward}
use Rattle.meaning.specs.Search.Order.{Stands, stands}

size_local : Local size_of
unfolding size_of kids_of
size_local f h (var v) e = refl
size_local f h (op o cs) e = ap (λ n. 1 + n) (sum_same f h cs e)

sum_le : (f h : ℕ → ℕ) (cs : List ℕ) → ((c : ℕ) → Mem c cs → f c ≤ h c) → sum f cs ≤ sum h cs
unfolding sum
sum_le f h [] e = omega arith
sum_le f h (c ∷ cs) e = let a = e c (head refl) in let b = sum_le f h cs (λ d m. e d (tail m)) in omega arith

one_of : (f : ℕ → ℕ) (cs : List ℕ) {c : ℕ} → Mem c cs → f c ≤ sum f cs
unfolding sum
one_of f [] m = absurd (not-nil m)
one_of f (d ∷ cs) {c} m = ⊎_elim (λ e. rw e (omega arith)) (λ r. let h = one_of f cs r in omega arith) (cases_cons m)

module _ {p : Pattern} (o : Ordered p) where
  pub size_var : {n v : ℕ} → Stands p n (var v) → size p n ≡ 0
  unfolding size size_of
  size_var {n} s = value_at 0 size_of size_local p o n s.inside ∙ rw s.same

  pub size_op : {n f : ℕ} {cs : List ℕ} → Stands p n (op f cs) → size p n ≡ 1 + sum (size p) cs
  unfolding size size_of
  size_op {n} s = value_at 0 size_of size_local p o n s.inside ∙ rw s.same

  smaller : (f n : ℕ) → n < f → n < length p → size p n ≤ occ p n
  unfolding kids_of
  smaller zero n h l = absurd (omega arith)
  smaller (suc f) n h l = go (node_of p n) refl (λ c k m. smaller f c k m)
    where
      go : (x : PNode) → node_of p n ≡ x → ((c : ℕ) → c < f → c < length p → size p c ≤ occ p c) → size p n ≤ occ p n
      go (var v) s ih = let e = size_var (stands (var v) l s) in omega arith
      go (op a cs) s ih =
          let st = stands (op a cs) l s in
          let low : (c : ℕ) → Mem c cs → c < n = λ c m. o.below n c l (rw s m) in
          let e = size_op st in let g = occ_op o st in
          let b = sum_le (size p) (occ p) cs (λ c m. let k = low c m in ih c (omega arith) (omega arith)) in
          omega arith

  -- operators are occurrences
  pub size_occ : (n : ℕ) → n < length p → size p n ≤ occ p n
  size_occ n h = smaller (suc n) n (omega arith) h

module _ {w : List ℕ} (r : Downward w) (some : 1 ≤ word w 0) where
  stands_at : (i : ℕ) → i < word w 0 → (x : PNode) → pnode_at w i ≡ x → Stands (pattern_of w) i x
  stands_at i h x e = stands x (rw (pattern_length w) h) (pattern_at w i h ∙ e)

  pub size_variable : (i : ℕ) → i < word w 0 → kind_at w i ≡ 0 → size (pattern_of w) i ≡ 0
  size_variable i h e = size_var (ordered r some) (stands_at i h (var (number_at w i)) (pnode_var r i e))

  pub size_operator : (i : ℕ) → i < word w 0 → (kind_at w i ≡ 0 → ⊥) → size (pattern_of w) i ≡ 1 + sum (size (pattern_of w)) (children_of w i)
  size_operator i h n = size_op (ordered r some) (stands_at i h (op (number_at w i) (children_of w i)) (pnode_op r i n))

  pub free_variable : (i : ℕ) → i < word w 0 → kind_at w i ≡ 0 → free (pattern_of w) i ≡ number_at w i ∷ []
  free_variable i h e = free_var (ordered r some) (stands_at i h (var (number_at w i)) (pnode_var r i e))

  pub free_operator : (i : ℕ) → i < word w 0 → (kind_at w i ≡ 0 → ⊥) → free (pattern_of w) i ≡ unions (free (pattern_of w)) (children_of w i)
  free_operator i h n = free_op (ordered r some) (stands_at i h (op (number_at w i) (children_of w i)) (pnode_op r i n))

module _ {w : List ℕ} (r : PatternNodes w) (some : 1 ≤ word w 0) (l : length w ≡ 4 + 4 * word w 0 + word w 1) where
  upward : (f i : ℕ) → word w 0 ≤ f + i → i < word w 0 → occ (pattern_of w) i ≤ occ (pattern_of w) (word w 0 - 1)
  upward zero i a h = absurd (omega arith)
  upward (suc f) i a h = go (ltb (suc i) (word w 0)) refl (λ j k m. upward f j k m)
    where
      go : (b : Bool) → ltb (suc i) (word w 0) ≡ b → ((j : ℕ) → word w 0 ≤ f + j → j < word w 0 → occ (pattern_of w) j ≤ occ (pattern_of w) (word w 0 - 1)) → occ (pattern_of w) i ≤ occ (pattern_of w) (word w 0 - 1)
      go false e ih = let k = ltb-false (suc i) (word w 0) e in let q : word w 0 - 1 ≡ i = omega arith in rw q (omega arith)
      go true e ih =
          let (j, b, m) = parent r l i (ltb-true (suc i) (word w 0) e) in
          let n : Mem i (children_of w j) = rw (pattern_at w j b, kids_of_lem (downward r) j b) at m in
          let low = child_below (downward r) j b i n in
          let o = occ_at (downward r) some j b in
          let s = one_of (occ (pattern_of w)) (children_of w j) n in
          let t = ih j (omega arith) b in
          omega arith

-- no node of a good pattern has more operators than the pattern may have occurrences
pub few : {w : List ℕ} → GoodPattern w → (i : ℕ) → i < word w 0 → size (pattern_of w) i ≤ 256
unfolding occurrences
few {w} g i h =
    let a = size_occ (ordered (downward g.nodes) g.limits.some) i (rw (pattern_length w) h) in
    let b = upward g.nodes g.limits.some g.shape.long (word w 0) i (omega arith) h in
    let c : occ (pattern_of w) (word w 0 - 1) ≤ 256 = rw (pattern_length w) at g.few in
    omega arith
