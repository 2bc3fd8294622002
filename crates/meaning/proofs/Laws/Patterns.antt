-- What follows from a good pattern's words: the facts that the floors above may use. Assumes nothing.
use Rattle.std.proofs.Common.{ℕ, zero, suc, ◌+◌, ◌*◌, ◌-◌, ◌<◌, ◌≤◌, ◌≡◌, List, [], ◌∷◌, Bool, cond, ltb, length, get_or, drop, ◌∙◌, length-take, length-drop, arith, zero-add, add_assoc, eqb-true, eq-eqb, ne_eqb, ltb-true, ltb-false}
use Rattle.std.proofs.Math.Path.{refl, sym, ap}
use mathlib.Core.List.Memᴰ.{cast as mem-cast, head, tail}
use mathlib.Core.List.{Memᴰ as Mem}
use Rattle.std.proofs.Math.Bool.{true, false}
use Rattle.std.proofs.Math.Dec.{eqb}
use Rattle.std.proofs.Math.Seq.{get_or-take, get_or-drop}
use borrow.Author.Tests.{eqb-false}
use Rattle.meaning.specs.Lists.{NoDup}
use Rattle.meaning.specs.Words.{word}
use Rattle.meaning.specs.Pattern.{var, op, node_of, kids_of, Ordered, sum, occ_of, occ}
use Rattle.meaning.specs.PatternWords.{kind_at, number_at, degree_at, start_at, child_of, children_of, pnode_at, pattern_of}
use Rattle.meaning.specs.GoodPattern.{Same, PatternNodes, Downward, GoodPattern}
use Rattle.meaning.specs.Laws.Runs.{map_length, map_at, run_once}
use Rattle.meaning.specs.Laws.Joins.{joined_within, joined_find}
use Rattle.meaning.proofs.Laws.Tables.{mem_part}
use Rattle.meaning.specs.Laws.Built.{value_at}
use Rattle.meaning.specs.Laws.Instances.{occ_local}

-- what stands at a place of a list is one of it
pub at_mem : (l : List ℕ) (x : ℕ) → x < length l → Mem (get_or l x 0) l
at_mem [] x h = absurd (omega arith)
at_mem (a ∷ l) zero h = head refl
at_mem (a ∷ l) (suc x) h = tail (at_mem l x (omega arith))

module _ (w : List ℕ) where
  -- as many nodes as the words say
  pub pattern_length : length (pattern_of w) ≡ word w 0
  unfolding pattern_of
  pattern_length = map_length (pnode_at w) 0 (word w 0)

  pub pattern_at : (i : ℕ) → i < word w 0 → node_of (pattern_of w) i ≡ pnode_at w i
  unfolding pattern_of
  pattern_at i h = map_at (pnode_at w) (var 0) 0 (word w 0) i h ∙ ap (pnode_at w) (zero-add i)

  -- the children of node i, by their places
  pub child_there : (i x : ℕ) → x < degree_at w i → get_or (children_of w i) x 0 ≡ child_of w (start_at w i + x)
  unfolding children_of
  child_there i x h = get_or-take (degree_at w i) (drop (4 + 4 * word w 0 + start_at w i) w) x 0 h
      ∙ get_or-drop (4 + 4 * word w 0 + start_at w i) w x 0 ∙ ap (λ (n : ℕ). word w n) (add_assoc (4 + 4 * word w 0) (start_at w i) x)

  pub mem_child : (i : ℕ) {c : ℕ} → Mem c (children_of w i) → (x : ℕ) × (x < degree_at w i) × (c ≡ child_of w (start_at w i + x))
  unfolding children_of
  mem_child i {c} m =
      let (x, b, e) = mem_part (degree_at w i) (4 + 4 * word w 0 + start_at w i) w c m in
      (x, b, e ∙ ap (λ (n : ℕ). word w n) (add_assoc (4 + 4 * word w 0) (start_at w i) x))

  -- as many as its arity, if they lie in the words
  pub children_count : (i : ℕ) → 4 + 4 * word w 0 + start_at w i + degree_at w i ≤ length w → length (children_of w i) ≡ degree_at w i
  unfolding children_of
  children_count i h = simp (length-take, length-drop) (omega arith)

  no_children : (i : ℕ) → degree_at w i ≡ 0 → children_of w i ≡ []
  unfolding children_of
  no_children i e = rw e

pub downward : {w : List ℕ} → PatternNodes w → Downward w
downward r = record { kind = r.kind; leaf = r.leaf; arity = r.arity; joined = r.joined; below = r.below }

-- each node by itself
module _ {w : List ℕ} (r : Downward w) where
  pub pnode_var : (i : ℕ) → kind_at w i ≡ 0 → pnode_at w i ≡ var (number_at w i)
  unfolding pnode_at
  pnode_var i e = rw (eq-eqb (kind_at w i) 0 e)

  pub pnode_op : (i : ℕ) → (kind_at w i ≡ 0 → ⊥) → pnode_at w i ≡ op (number_at w i) (children_of w i)
  unfolding pnode_at
  pnode_op i n = rw (ne_eqb (kind_at w i) 0 n)

  -- a variable's record has no children either
  pub kids_of_lem : (i : ℕ) → i < word w 0 → kids_of (pnode_at w i) ≡ children_of w i
  unfolding pnode_at kids_of
  kids_of_lem i h = go (eqb (kind_at w i) 0) refl
    where
      go : (b : Bool) → eqb (kind_at w i) 0 ≡ b → kids_of (cond b (var (number_at w i)) (op (number_at w i) (children_of w i))) ≡ children_of w i
      go true e = sym (no_children w i (r.leaf i h (eqb-true (kind_at w i) 0 e)))
      go false e = refl

  -- the children of node i lie in the children area
  pub children_within : (i : ℕ) → i < word w 0 → start_at w i + degree_at w i ≤ word w 1
  children_within i h = joined_within r.joined i h

  pub child_below : (i : ℕ) → i < word w 0 → (c : ℕ) → Mem c (children_of w i) → c < i
  child_below i h c m = let (x, b, e) = mem_child w i m in rw e (r.below i x h b)

  pub ordered : 1 ≤ word w 0 → Ordered (pattern_of w)
  ordered l = record {
    rooted = rw (pattern_length w) l;
    below = λ n c h m. let b : n < word w 0 = rw (pattern_length w) at h in child_below n b c (rw (pattern_at w n b, kids_of_lem n b) at m);
  }

  same_node : (i j : ℕ) → i < word w 0 → j < word w 0 → pnode_at w i ≡ pnode_at w j → Same w i j
  same_node i j a b e = go (eqb (kind_at w i) 0) refl (eqb (kind_at w j) 0) refl
    where
      kids : children_of w i ≡ children_of w j
      kids = sym (kids_of_lem i a) ∙ ap kids_of e ∙ kids_of_lem j b

      var_op : {x y : ℕ} {cs : List ℕ} → var x ≡ op y cs → ⊥
      var_op q = let z : ◌≡◌ {A = ℕ} 0 1 = cc in omega arith

      go : (p : Bool) → eqb (kind_at w i) 0 ≡ p → (q : Bool) → eqb (kind_at w j) 0 ≡ q → Same w i j
      go true p true q =
          let k = eqb-true _ _ p in let l = eqb-true _ _ q in
          let d : var (number_at w i) ≡ var (number_at w j) = sym (pnode_var i k) ∙ e ∙ pnode_var j l in
          record { kind = k ∙ sym l; number = cc; children = kids }
      go true p false q = absurd (var_op (sym (pnode_var i (eqb-true _ _ p)) ∙ e ∙ pnode_op j (eqb-false _ _ q)))
      go false p true q = absurd (var_op (sym (pnode_var j (eqb-true _ _ q)) ∙ sym e ∙ pnode_op i (eqb-false _ _ p)))
      go false p false q =
          let k = eqb-false _ _ p in let l = eqb-false _ _ q in
          let u = r.kind i a in let v = r.kind j b in
          let d : op (number_at w i) (children_of w i) ≡ op (number_at w j) (children_of w j) = sym (pnode_op i k) ∙ e ∙ pnode_op j l in
          record { kind = omega arith; number = cc; children = kids }

  -- a node's occurrences, from its children's
  pub occ_at : 1 ≤ word w 0 → (i : ℕ) → i < word w 0 → occ (pattern_of w) i ≡ 1 + sum (occ (pattern_of w)) (children_of w i)
  unfolding occ
  occ_at l i h = value_at 0 occ_of occ_local (pattern_of w) (ordered l) i (rw (pattern_length w) h)
      ∙ ap (occ_of (occ (pattern_of w))) (pattern_at w i h) ∙ made (eqb (kind_at w i) 0) refl
    where
      made : (b : Bool) → eqb (kind_at w i) 0 ≡ b → occ_of (occ (pattern_of w)) (pnode_at w i) ≡ 1 + sum (occ (pattern_of w)) (children_of w i)
      made true e = let k = eqb-true (kind_at w i) 0 e in unfold occ_of sum in rw (pnode_var i k, no_children w i (r.leaf i h k))
      made false e = unfold occ_of in rw (pnode_op i (eqb-false (kind_at w i) 0 e))

  module _ (l : length w ≡ 4 + 4 * word w 0 + word w 1) where
    -- and in the words
    pub children_in : (i : ℕ) → i < word w 0 → 4 + 4 * word w 0 + start_at w i + degree_at w i ≤ length w
    children_in i h = let b = children_within i h in omega arith

    -- as many as its arity
    pub children_length : (i : ℕ) → i < word w 0 → length (children_of w i) ≡ degree_at w i
    children_length i h = children_count w i (children_in i h)

-- and all of them together
module _ {w : List ℕ} (r : PatternNodes w) where
  pub pnode_once : (i j : ℕ) → i < word w 0 → j < word w 0 → pnode_at w i ≡ pnode_at w j → i ≡ j
  pnode_once i j a b e = go (ltb i j) refl (ltb j i) refl
    where
      go : (p : Bool) → ltb i j ≡ p → (q : Bool) → ltb j i ≡ q → i ≡ j
      go true p q s = absurd (r.once i j (ltb-true i j p) b (same_node (downward r) i j a b e))
      go false p true s = absurd (r.once j i (ltb-true j i s) a (same_node (downward r) j i b a (sym e)))
      go false p false s = let u = ltb-false i j p in let v = ltb-false j i s in omega arith

  -- no two nodes are equal
  pub pattern_once : NoDup (pattern_of w)
  unfolding pattern_of
  pattern_once = run_once (pnode_at w) (word w 0) pnode_once

  -- every node but the last is a child of some node
  pub parent : length w ≡ 4 + 4 * word w 0 + word w 1 → (i : ℕ) → suc i < word w 0 → (j : ℕ) × (j < word w 0) × Mem i (kids_of (node_of (pattern_of w) j))
  parent l i h =
      let (x, b, e) = r.used i h in
      let (j, a, low, high) = joined_find (word w 0) (word w 1) r.joined x b in
      let d : x - start_at w j < degree_at w j = omega arith in
      let q : start_at w j + (x - start_at w j) ≡ x = omega arith in
      let m = at_mem (children_of w j) (x - start_at w j) (rw (children_length (downward r) l j a) d) in
      (j, a, rw (pattern_at w j a, kids_of_lem (downward r) j a) (mem-cast (sym (child_there w j (x - start_at w j) d ∙ rw q e)) m))

-- a good pattern is one that the meaning of a pattern is made for
pub good_ordered : {w : List ℕ} → GoodPattern w → Ordered (pattern_of w)
good_ordered g = ordered (downward g.nodes) g.limits.some
