-- The variables bound at the end are those of the pattern, all of them and no others. Assumes nothing.
use Prim.Native.Nat.{ℕ, zero, suc, ◌+◌, ◌<◌, ◌≤◌}
use Rattle.std.specs.Prelude.{◌≡◌, ◌⊎◌, ◌↔◌, Bool}
use Rattle.std.proofs.Math.Path.{refl}
use Rattle.std.proofs.Common.{ap, subst}
use mathlib.Core.List.{List, [], ◌∷◌, ◌++◌, Memᴰ as Mem}
use mathlib.Core.List.Memᴰ.{append_cases as mem-cases, append_left as mem-left, append_right as mem-right, cases_cons, cast as mem-cast, eq_of_singleton as only, head, not-nil, tail}
use Rattle.std.proofs.Math.Logic.{⊎_elim}
use Rattle.std.proofs.Math.Bool.{true, false}
use Rattle.std.proofs.Math.ListN.{length}
use Rattle.std.proofs.Math.Dec.{eqb}
use borrow.Author.Tests.{eqb-true, eqb-false}
use native.Mathlib.Omega.{arith}
use Rattle.meaning.specs.declared.Reg.{Reg}
use Rattle.meaning.specs.Lists.{took_mem, took_in, took_rest, from_map, map_append}
use Rattle.meaning.specs.Pattern.{PNode, var, op, Pattern, Ordered, root, node_of, kids_of, free}
use Rattle.meaning.specs.Program.{Instr, Held, held, vars, reg}
use Rattle.meaning.specs.Compiler.{Item, item, Root, number, compile, ahead}
use Rattle.meaning.specs.Search.Order.{Stands, stands, Compiles, done, new, again, same, look, spread, mix, join, scans, kept}
use Rattle.meaning.specs.Laws.Instances.{free_var, free_op, unions_of, unions_from}
use Rattle.meaning.specs.Search.Bindings.{mem_var}
use Rattle.meaning.specs.Search.Compiled.{compile_right}

to_number : {c : ℕ} (k : ℕ) (cs : List ℕ) → Mem c cs → (j : Reg) × Mem (item c j) (number k cs)
unfolding number
to_number k [] m = elim m [ ]
to_number k (d ∷ cs) (head e) = (reg k, head (ap (λ z. item z (reg k)) e))
to_number k (d ∷ cs) (tail m) = let (j, h) = to_number (suc k) cs m in (j, tail h)

from_number : {x : Item} (k : ℕ) (cs : List ℕ) → Mem x (number k cs) → Mem x.node cs
unfolding number
from_number k [] m = absurd (not-nil m)
from_number {x} k (d ∷ cs) m = ⊎_elim (λ e. head (ap (λ (y : Item). y.node) e)) (λ r. tail (from_number (suc k) cs r)) (cases_cons m)

pub no_var : {v : ℕ} → Mem v (vars []) → ⊥
unfolding vars
no_var m = not-nil m

pub free_at : (p : Pattern) {v : ℕ} {x y : Item} → y ≡ x → Mem v (free p y.node) → Mem v (free p x.node)
free_at p {v} e m = subst (λ (z : Item). Mem v (free p z.node)) e m

kept_var : {p : Pattern} {R : List Root} {l : List Item} {B H : List Held} {k : ℕ} {is : List Instr} {v : ℕ} → Compiles p R l B k is H → Mem v (vars B) → Mem v (vars H)
unfolding vars
kept_var {B = B} d m = let (b, h, e) = from_map (λ (b : Held). b.var) B m in mem-cast e (mem_var (kept d h))

-- where a variable bound at the end comes from
pub data From (p : Pattern) (R : List Root) (l : List Item) (B : List Held) (v : ℕ) : Type 0 where
  bound : Mem v (vars B) → From p R l B v
  within : {x : Item} → Mem x l → Mem v (free p x.node) → From p R l B v
  tops : {q : Root} → Mem q R → Mem v (free p q.top) → From p R l B v
  binders : {q : Root} → Mem q R → Mem v (free p q.binder) → From p R l B v

-- more items
wider : {p : Pattern} {R : List Root} {l r : List Item} {B : List Held} {v : ℕ} → ((x : Item) → Mem x r → Mem x l) → From p R r B v → From p R l B v
wider f (bound m) = bound m
wider f (within {x = x} m h) = within (f x m) h
wider f (tops m h) = tops m h
wider f (binders m h) = binders m h

module _ {p : Pattern} (o : Ordered p) where
  var_free : {x y : Item} {u v : ℕ} → Stands p x.node (var u) → y ≡ x → Mem v (free p y.node) → v ≡ u
  var_free {x} {y} st e h = only (rw (free_var o st) at (free_at p {x = x} {y = y} e h))

  op_free : {x y : Item} {f v : ℕ} {cs : List ℕ} → Stands p x.node (op f cs) → y ≡ x → Mem v (free p y.node) → (c : ℕ) × Mem c cs × Mem v (free p c)
  op_free {x} {y} {cs = cs} st e h = unions_from (free p) cs (rw (free_op o st) at (free_at p {x = x} {y = y} e h))

  pub covers : {R : List Root} {l : List Item} {B H : List Held} {k : ℕ} {is : List Instr} → Compiles p R l B k is H
      → (x : Item) → Mem x l → (v : ℕ) → Mem v (free p x.node) → Mem v (vars H)
  covers done x m v h = absurd (not-nil m)
  covers (new {x = y} {B = B} st t n d) x m v h = ⊎_elim
      (λ e. mem-cast (var_free st e h) (mem_var (kept d (mem-right B (head refl)))))
      (λ r. covers d x r v h) (took_mem t m)
  covers (again st t j d) x m v h = ⊎_elim (λ e. mem-cast (var_free st e h) (mem_var (kept d j))) (λ r. covers d x r v h) (took_mem t m)
  covers (same st t j d) x m v h = ⊎_elim (λ e. mem-cast (var_free st e h) (mem_var (kept d j))) (λ r. covers d x r v h) (took_mem t m)
  covers (look t f d) x m v h = ⊎_elim (λ e. kept_var d (f v (free_at p e h))) (λ r. covers d x r v h) (took_mem t m)
  covers (spread {cs = cs} {r = l} {k = k} st t d) x m v h = ⊎_elim
      (λ e. let (c, i, a) = op_free st e h in let (j, b) = to_number k cs i in covers d (item c j) (mem-left l b) v a)
      (λ r. covers d x (mem-right (number k cs) r) v h) (took_mem t m)
  covers (mix f b d) x m v h = covers d x (f x m) v h
  covers (join st j d) x m v h = absurd (not-nil m)
  covers (scans d) x m v h = absurd (not-nil m)

  -- also those of patterns to come
  pub covers_roots : {R : List Root} {l : List Item} {B H : List Held} {k : ℕ} {is : List Instr} → Compiles p R l B k is H
      → (q : Root) → Mem q R → (v : ℕ) → Mem v (free p q.top) ⊎ Mem v (free p q.binder) → Mem v (vars H)
  covers_roots done q m v h = absurd (not-nil m)
  covers_roots (new st t n d) q m v h = covers_roots d q m v h
  covers_roots (again st t j d) q m v h = covers_roots d q m v h
  covers_roots (same st t j d) q m v h = covers_roots d q m v h
  covers_roots (look t f d) q m v h = covers_roots d q m v h
  covers_roots (spread st t d) q m v h = covers_roots d q m v h
  covers_roots (mix f b d) q m v h = covers_roots d q m v h
  covers_roots (join {q = r} {j = j} st i d) q m v h = ⊎_elim
      (λ e. ⊎_elim (λ a. covers d (item r.top j) (head refl) v (free_at p {x = item r.top j} {y = item q.top j} (ap (λ (z : Root). item z.top j) e) a))
      (λ a. mem-cast (var_free {x = item r.binder j} {y = item q.binder j} st (ap (λ (z : Root). item z.binder j) e) a) (mem_var (kept d i))) h)
      (λ r. covers_roots d q r v h) (cases_cons m)
  covers_roots (scans {q = r} {k = k} d) q m v h = ⊎_elim
      (λ e. ⊎_elim (λ a. covers d (item r.top (reg k)) (head refl) v (free_at p {x = item r.top (reg k)} {y = item q.top (reg k)} (ap (λ (z : Root). item z.top (reg k)) e) a))
      (λ a. covers d (item r.binder (reg k)) (tail (head refl)) v (free_at p {x = item r.binder (reg k)} {y = item q.binder (reg k)} (ap (λ (z : Root). item z.binder (reg k)) e) a)) h)
      (λ r. covers_roots d q r v h) (cases_cons m)

  pub sources : {R : List Root} {l : List Item} {B H : List Held} {k : ℕ} {is : List Instr} → Compiles p R l B k is H → (v : ℕ) → Mem v (vars H) → From p R l B v
  sources done v m = bound m
  sources (new {R = R} {x = x} {v = u} {l = l} {r = r} {B = B} st t n d) v m = go (sources d v m)
    where
      go : From p R r (B ++ (held u x.reg ∷ [])) v → From p R l B v
      go (bound k) = ⊎_elim bound (λ i. within (took_in t) (rw (free_var o st) (head (only i)))) (mem-cases (vars B) (vars_split k))
        where
          vars_split : Mem v (vars (B ++ (held u x.reg ∷ []))) → Mem v (vars B ++ (u ∷ []))
          vars_split k = unfold vars in (rw map_append at k)
      go (within k h) = within (took_rest t k) h
      go (tops k h) = tops k h
      go (binders k h) = binders k h
  sources (again st t j d) v m = wider (λ x k. took_rest t k) (sources d v m)
  sources (same st t j d) v m = wider (λ x k. took_rest t k) (sources d v m)
  sources (look t f d) v m = wider (λ x k. took_rest t k) (sources d v m)
  sources (spread {R = R} {x = x} {cs = cs} {l = l} {r = r} {B = B} {k = k} st t d) v m = go (sources d v m)
    where
      go : From p R (number k cs ++ r) B v → From p R l B v
      go (bound k) = bound k
      go (within i h) = ⊎_elim (λ a. within (took_in t) (rw (free_op o st) (unions_of (free p) cs (from_number k cs a) h))) (λ b. within (took_rest t b) h) (mem-cases (number k cs) i)
      go (tops k h) = tops k h
      go (binders k h) = binders k h
  sources (mix f b d) v m = wider b (sources d v m)
  sources (join {q = q} {R = R} {j = j} {B = B} st i d) v m = go (sources d v m)
    where
      go : From p R (item q.top j ∷ []) B v → From p (q ∷ R) [] B v
      go (bound k) = bound k
      go (within k h) = tops (head refl) (free_at p (only k) h)
      go (tops k h) = tops (tail k) h
      go (binders k h) = binders (tail k) h
  sources (scans {q = q} {R = R} {B = B} {k = k} d) v m = go (sources d v m)
    where
      go : From p R (item q.top (reg k) ∷ item q.binder (reg k) ∷ []) B v → From p (q ∷ R) [] B v
      go (bound k) = bound k
      go (within i h) = ⊎_elim (λ e. tops (head refl) (free_at p e h)) (λ r. binders (head refl) (free_at p (only r) h)) (cases_cons i)
      go (tops k h) = tops (tail k) h
      go (binders k h) = binders (tail k) h

  -- a row's variables are the root's
  pub row_vars : (v : ℕ) → Mem v (vars (compile p).vars) ↔ Mem v (free p (root p))
  unfolding compile
  row_vars v = (λ m. go (sources (compile_right o (ahead p)) v m), λ m. covers (compile_right o (ahead p)) (item (root p) (reg 0)) (head refl) v m)
    where
      go : From p [] (item (root p) (reg 0) ∷ []) [] v → Mem v (free p (root p))
      go (bound k) = absurd (no_var k)
      go (within i h) = free_at p (only i) h
      go (tops k h) = absurd (not-nil k)
      go (binders k h) = absurd (not-nil k)

  -- every node but the root is somebody's child
  pub up_to_root : ((n : ℕ) → suc n < length p → (m : ℕ) × (m < length p) × Mem n (kids_of (node_of p m)))
      → (f n v : ℕ) → length p ≤ n + f → n < length p → Mem v (free p n) → Mem v (free p (root p))
  unfolding kids_of
  up_to_root used zero n v h l m = absurd (omega arith)
  up_to_root used (suc f) n v h l m = go (eqb (suc n) (length p)) refl (λ k i j r. up_to_root used f k v i j r)
    where
      go : (b : Bool) → eqb (suc n) (length p) ≡ b → ((k : ℕ) → length p ≤ k + f → k < length p → Mem v (free p k) → Mem v (free p (root p))) → Mem v (free p (root p))
      go true e ih = let i = eqb-true (suc n) (length p) e in let j : n ≡ root p = omega arith in rw j at m
      go false e ih =
          let i = eqb-false (suc n) (length p) e in
          let (k, r, c) = used n (omega arith) in
          let z = o.below k n r c in
          ih k (omega arith) r (parent (node_of p k) refl r c)
        where
          parent : {k : ℕ} (x : PNode) → node_of p k ≡ x → k < length p → Mem n (kids_of (node_of p k)) → Mem v (free p k)
          parent (var u) e r c = absurd (not-nil (rw e at c))
          parent (op a cs) e r c = rw (free_op o (stands (op a cs) r e)) (unions_of (free p) cs (rw e at c) m)

  -- then every variable of the pattern stands in the rows
  pub all_vars : ((n : ℕ) → suc n < length p → (m : ℕ) × (m < length p) × Mem n (kids_of (node_of p m)))
      → (n v : ℕ) → Stands p n (var v) → Mem v (vars (compile p).vars)
  all_vars used n v s = (row_vars v).1 (up_to_root used (length p) n v (omega arith) s.inside (rw (free_var o s) (head refl)))
