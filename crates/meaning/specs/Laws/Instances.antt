-- Instances, variables and occurrences of a node, from its children's. Assumes nothing.
use Prim.Native.Nat.{ℕ, zero, suc, ◌+◌, ◌<◌, ◌≤◌}
use Rattle.std.specs.Prelude.{◌≡◌, ◌⊎◌, Bool, cond, length, eqb, None, Some}
use Rattle.std.proofs.Math.Path.{refl, sym, ap}
use Rattle.std.proofs.Common.{◌∙◌, inl, inr, ⊎_elim, arith}
use mathlib.Core.List.{List, [], ◌∷◌, ◌++◌, map, Memᴰ as Mem}
use mathlib.Core.List.Memᴰ.{append_cases as mem-split, append_left as mem-left, append_right as mem-right, cases_cons, head, not-nil, tail}
use Rattle.std.proofs.Math.Bool.{true, false}
use Rattle.std.proofs.Math.Dec.{ltb}
use borrow.Author.Tests.{eqb-true, eqb-false, ltb-true, ltb-false}
use Rattle.meaning.specs.Lists.{NoDup, empty, more, nodup_one, map_same}
use Rattle.meaning.specs.Graph.{Graph, lookup}
use Rattle.meaning.specs.Pattern.{PNode, var, op, Pattern, node_of, kids_of, Ordered, insert, union, unions, sum, free_of, free, occ_of, occ}
use Rattle.meaning.specs.Instance.{all_some, inst_of, inst}
use Rattle.meaning.specs.Laws.Built.{Local, value_at, value_out}
use Rattle.meaning.specs.Search.Order.{Stands}
use Rattle.meaning.specs.Search.Solve.{Means}

inst_local : (g : Graph) (σ : ℕ → ℕ) → Local (inst_of g σ)
unfolding inst_of kids_of
inst_local g σ f h (var v) e = refl
inst_local g σ f h (op o cs) e = ap (λ os. all_some os (lookup g o)) (map_same f h cs e)

pub unions_same : (f h : ℕ → List ℕ) (cs : List ℕ) → ((c : ℕ) → Mem c cs → f c ≡ h c) → unions f cs ≡ unions h cs
unfolding unions
unions_same f h [] e = refl
unions_same f h (c ∷ cs) e = cc (e c (head refl), unions_same f h cs (λ d m. e d (tail m)))

free_local : Local free_of
unfolding free_of kids_of
free_local f h (var v) e = refl
free_local f h (op o cs) e = unions_same f h cs e

pub sum_same : (f h : ℕ → ℕ) (cs : List ℕ) → ((c : ℕ) → Mem c cs → f c ≡ h c) → sum f cs ≡ sum h cs
unfolding sum
sum_same f h [] e = refl
sum_same f h (c ∷ cs) e = cc (e c (head refl), sum_same f h cs (λ d m. e d (tail m)))

pub occ_local : Local occ_of
unfolding occ_of kids_of
occ_local f h (var v) e = refl
occ_local f h (op o cs) e = ap (λ n. 1 + n) (sum_same f h cs e)

-- insert and union keep and bring what they should
insert_new : (v : ℕ) (l : List ℕ) → Mem v (insert v l)
unfolding insert
insert_new v [] = head refl
insert_new v (u ∷ l) = go (eqb u v) refl (insert_new v l)
  where
    go : (b : Bool) → eqb u v ≡ b → Mem v (insert v l) → Mem v (cond b (u ∷ l) (u ∷ insert v l))
    go true e m = head (sym (eqb-true u v e))
    go false e m = tail m

insert_old : (v : ℕ) {u : ℕ} (l : List ℕ) → Mem u l → Mem u (insert v l)
unfolding insert
insert_old v [] m = elim m [ ]
insert_old v {u} (x ∷ l) m = go (eqb x v) (cases_cons m) (λ r. insert_old v l r)
  where
    go : (b : Bool) → (u ≡ x) ⊎ Mem u l → (Mem u l → Mem u (insert v l)) → Mem u (cond b (x ∷ l) (x ∷ insert v l))
    go true (inl e) f = head e
    go true (inr m) f = tail m
    go false (inl e) f = head e
    go false (inr m) f = tail (f m)

insert_from : (v : ℕ) {u : ℕ} (l : List ℕ) → Mem u (insert v l) → (u ≡ v) ⊎ Mem u l
unfolding insert
insert_from v [] m = cases_cons m
insert_from v {u} (x ∷ l) m = go (eqb x v) m (λ r. insert_from v l r)
  where
    go : (b : Bool) → Mem u (cond b (x ∷ l) (x ∷ insert v l)) → (Mem u (insert v l) → (u ≡ v) ⊎ Mem u l) → (u ≡ v) ⊎ Mem u (x ∷ l)
    go true m f = inr m
    go false m f = ⊎_elim (λ e. inr (head e)) (λ r. ⊎_elim inl (λ k. inr (tail k)) (f r)) (cases_cons m)

union_right : {u : ℕ} (l m : List ℕ) → Mem u m → Mem u (union l m)
unfolding union
union_right [] m k = k
union_right (v ∷ l) m k = union_right l (insert v m) (insert_old v m k)

union_left : {u : ℕ} (l m : List ℕ) → Mem u l → Mem u (union l m)
unfolding union
union_left [] m k = elim k [ ]
union_left {u} (v ∷ l) m k = ⊎_elim (λ e. rw e (union_right l (insert v m) (insert_new v m))) (λ r. union_left l (insert v m) r) (cases_cons k)

union_from : {u : ℕ} (l m : List ℕ) → Mem u (union l m) → Mem u l ⊎ Mem u m
unfolding union
union_from [] m k = inr k
union_from (v ∷ l) m k = ⊎_elim (λ r. inl (tail r)) (λ r. ⊎_elim (λ e. inl (head e)) inr (insert_from v m r)) (union_from l (insert v m) k)

pub unions_of : (f : ℕ → List ℕ) (cs : List ℕ) {u c : ℕ} → Mem c cs → Mem u (f c) → Mem u (unions f cs)
unfolding unions
unions_of f [] m k = elim m [ ]
unions_of f (d ∷ cs) {u} m k = ⊎_elim (λ e. union_left (f d) (unions f cs) (rw e at k)) (λ r. union_right (f d) (unions f cs) (unions_of f cs r k)) (cases_cons m)

pub unions_from : (f : ℕ → List ℕ) (cs : List ℕ) {u : ℕ} → Mem u (unions f cs) → (c : ℕ) × Mem c cs × Mem u (f c)
unfolding unions
unions_from f [] k = absurd (not-nil k)
unions_from f (d ∷ cs) {u} k = ⊎_elim (λ r. (d, head refl, r)) (λ r. let (c, m, h) = unions_from f cs r in (c, tail m, h)) (union_from (f d) (unions f cs) k)

-- one list more
pub unions_append : (f : ℕ → List ℕ) (cs : List ℕ) (c u : ℕ) → Mem u (unions f cs) ⊎ Mem u (f c) → Mem u (unions f (cs ++ (c ∷ [])))
unions_append f cs c u (inl m) = let (d, k, h) = unions_from f cs m in unions_of f (cs ++ (c ∷ [])) (mem-left (c ∷ []) k) h
unions_append f cs c u (inr h) = unions_of f (cs ++ (c ∷ [])) (mem-right cs (head refl)) h

pub unions_last : (f : ℕ → List ℕ) (cs : List ℕ) (c u : ℕ) → Mem u (unions f (cs ++ (c ∷ []))) → Mem u (unions f cs) ⊎ Mem u (f c)
unions_last f cs c u m =
    let (d, k, h) = unions_from f (cs ++ (c ∷ [])) m in
    ⊎_elim (λ r. inl (unions_of f cs r h)) (λ r. ⊎_elim (λ e. inr (rw e at h)) (λ x. absurd (not-nil x)) (cases_cons r)) (mem-split cs k)

insert_once : (v : ℕ) {l : List ℕ} → NoDup l → NoDup (insert v l)
unfolding insert
insert_once v empty = nodup_one
insert_once v (more {x = u} {l = l} n d) = go (eqb u v) refl (insert_once v d)
  where
    go : (b : Bool) → eqb u v ≡ b → NoDup (insert v l) → NoDup (cond b (u ∷ l) (u ∷ insert v l))
    go true e r = more n d
    go false e r = more (λ m. ⊎_elim (eqb-false u v e) n (insert_from v l m)) r

union_once : (l : List ℕ) {m : List ℕ} → NoDup m → NoDup (union l m)
unfolding union
union_once [] d = d
union_once (v ∷ l) d = union_once l (insert_once v d)

unions_once : (f : ℕ → List ℕ) (cs : List ℕ) → NoDup (unions f cs)
unfolding unions
unions_once f [] = empty
unions_once f (c ∷ cs) = union_once (f c) (unions_once f cs)

module _ {p : Pattern} (o : Ordered p) where
  pub free_var : {n v : ℕ} → Stands p n (var v) → free p n ≡ v ∷ []
  unfolding free free_of
  free_var {n} s = value_at [] free_of free_local p o n s.inside ∙ rw s.same

  pub free_op : {n f : ℕ} {cs : List ℕ} → Stands p n (op f cs) → free p n ≡ unions (free p) cs
  unfolding free free_of
  free_op {n} s = value_at [] free_of free_local p o n s.inside ∙ rw s.same

  pub occ_var : {n v : ℕ} → Stands p n (var v) → occ p n ≡ 1
  unfolding occ occ_of
  occ_var {n} s = value_at 0 occ_of occ_local p o n s.inside ∙ rw s.same

  pub occ_op : {n f : ℕ} {cs : List ℕ} → Stands p n (op f cs) → occ p n ≡ 1 + sum (occ p) cs
  unfolding occ occ_of
  occ_op {n} s = value_at 0 occ_of occ_local p o n s.inside ∙ rw s.same

  pub inst_var : (g : Graph) (σ : ℕ → ℕ) (n v : ℕ) → Stands p n (var v) → inst g p σ n ≡ Some (σ v)
  unfolding inst inst_of
  inst_var g σ n v s = value_at None (inst_of g σ) (inst_local g σ) p o n s.inside ∙ rw s.same

  pub inst_op : (g : Graph) (σ : ℕ → ℕ) (n f : ℕ) (cs : List ℕ) → Stands p n (op f cs) → inst g p σ n ≡ all_some (map (inst g p σ) cs) (lookup g f)
  unfolding inst inst_of
  inst_op g σ n f cs s = value_at None (inst_of g σ) (inst_local g σ) p o n s.inside ∙ rw s.same

  pub inst_out : (g : Graph) (σ : ℕ → ℕ) (n : ℕ) → length p ≤ n → inst g p σ n ≡ None
  unfolding inst
  inst_out g σ n h = value_out None (inst_of g σ) p n h

  free_out : (n : ℕ) → length p ≤ n → free p n ≡ []
  unfolding free
  free_out n h = value_out [] free_of p n h

  -- an instance depends on the node's variables only
  agree : (g : Graph) (σ τ : ℕ → ℕ) (f n : ℕ) → n < f → ((v : ℕ) → Mem v (free p n) → σ v ≡ τ v) → inst g p σ n ≡ inst g p τ n
  unfolding kids_of
  agree g σ τ zero n h e = absurd (omega arith)
  agree g σ τ (suc f) n h e = go (ltb n (length p)) refl (node_of p n) refl (λ c l k. agree g σ τ f c l k)
    where
      go : (b : Bool) → ltb n (length p) ≡ b → (x : PNode) → node_of p n ≡ x
          → ((c : ℕ) → c < f → ((v : ℕ) → Mem v (free p c) → σ v ≡ τ v) → inst g p σ c ≡ inst g p τ c) → inst g p σ n ≡ inst g p τ n
      go false i x s ih = let l = ltb-false n (length p) i in inst_out g σ n l ∙ sym (inst_out g τ n l)
      go true i (var v) s ih =
          let st : Stands p n (var v) = record { inside = ltb-true n (length p) i; same = s } in
          inst_var g σ n v st ∙ ap Some (e v (rw (free_var st) (head refl))) ∙ sym (inst_var g τ n v st)
      go true i (op a cs) s ih =
          let st : Stands p n (op a cs) = record { inside = ltb-true n (length p) i; same = s } in
          let low : (c : ℕ) → Mem c cs → c < n = λ c m. o.below n c st.inside (rw s m) in
          inst_op g σ n a cs st
          ∙ ap (λ os. all_some os (lookup g a)) (map_same (inst g p σ) (inst g p τ) cs
          (λ c m. let l = low c m in ih c (omega arith) (λ v k. e v (rw (free_op st) (unions_of (free p) cs m k)))))
          ∙ sym (inst_op g τ n a cs st)

  pub means : (g : Graph) → Means g p
  means g = record { of_var = inst_var g; of_op = inst_op g; of_free = λ σ τ n e. agree g σ τ (suc n) n (omega arith) e }

  -- each variable of a node is listed once, so a count of them is a count of variables
  pub free_once : (n : ℕ) → NoDup (free p n)
  free_once n = go (ltb n (length p)) refl (node_of p n) refl
    where
      go : (b : Bool) → ltb n (length p) ≡ b → (x : PNode) → node_of p n ≡ x → NoDup (free p n)
      go false i x s = rw (free_out n (ltb-false n (length p) i)) empty
      go true i (var v) s = rw (free_var (record { inside = ltb-true n (length p) i; same = s })) nodup_one
      go true i (op a cs) s = rw (free_op {cs = cs} (record { inside = ltb-true n (length p) i; same = s })) (unions_once (free p) cs)
