-- What each kind of step does to the assignments that solve a state. Assumes nothing.
use Rattle.std.proofs.Common.{ℕ, ◌<◌, ◌≡◌, refl, List, [], ◌∷◌, ◌++◌, map, true, length, sym, ap, ◌∙◌, ap₂, eqb-true, eq-eqb, Some}
use mathlib.Core.List.Memᴰ.{cast as mem-cast, eq_of_singleton as only, head}
use mathlib.Core.List.{Memᴰ as Mem}
use Rattle.std.proofs.lemmas.List.{length-map}
use Rattle.std.proofs.Math.Seq.{get_or-append_seam}
use Rattle.meaning.specs.declared.Reg.{Reg}
use Rattle.meaning.specs.Tests.{and_left, and_right, and_both}
use Rattle.meaning.specs.Lists.{All, nil, cons, NoDup, Took, took_all, put_all, all_append, all_split, all_at, all_of, nodup_one, from_map, all_map2}
use Rattle.meaning.specs.Graph.{Graph, Node, node, nodes_of, ids, lookup, fits}
use Rattle.meaning.specs.Pattern.{var, op, Pattern, free}
use Rattle.meaning.specs.Instance.{inst}
use Rattle.meaning.specs.Program.{Held, held, vars, row, asg, gives, at, reg}
use Rattle.meaning.specs.Compiler.{Item, item, number, Root}
use Rattle.meaning.specs.Search.Listing.{Lists}
use Rattle.meaning.specs.Search.Order.{Stands}
use Rattle.meaning.proofs.Laws.Lookup.{Reads}
use Rattle.meaning.specs.Search.Solve.{Means, Joined, Solves, Fit, File, Known}
use Rattle.meaning.specs.Search.Rowlaws.{asg_row, row_of, some_all, all_some_lem, somes, somes_length, numbered, to_numbered}
use Rattle.meaning.specs.Search.Fits.{same_at, class_at_lem}

-- a row's values are classes
pub row_known : {g : Graph} (H : List Held) {k : ℕ} {ρ : List ℕ} → File g k ρ → All (λ b. b.reg.0 < k) H → All (Known g) (row H ρ)
unfolding row
row_known [] file nil = nil
row_known {g} (b ∷ H) {ρ = ρ} file (cons h a) = cons (class_at_lem g ρ b.reg file.known (rw file.long h)) (row_known H file a)

-- nothing left to do: one row
pub finish : (g : Graph) (p : Pattern) (H : List Held) (k : ℕ) (ρ : List ℕ) → File g k ρ → Fit [] H k → Lists (Known g) (vars H) (row H ρ ∷ []) (Solves g p [] [] H ρ)
unfolding vars
finish g p H k ρ file fit = record {
  sound = λ w m. record { roots = nil; items = nil; binds = all_of H (λ b k. rw (only m) (asg_row H ρ b fit.apart k)) };
  wide = λ w m. rw (only m) (unfold row in (rw (length-map, length-map)));
  known = λ w m. rw (only m) (row_known H file fit.binds);
  complete = λ σ s. head (sym (row_of H ρ σ s.binds));
  once = nodup_one;
}

module _ {g : Graph} {p : Pattern} (means : Means g p) {R : List Root} {x : Item} {l r : List Item} {B : List Held} (ρ : List ℕ) (t : Took x l r) (σ : ℕ → ℕ) where
  -- a variable met first
  pub new_up : (v : ℕ) → Stands p x.node (var v) → Solves g p R r (B ++ (held v x.reg ∷ [])) ρ σ → Solves g p R l B ρ σ
  new_up v st s = let (a, b) = all_split B s.binds in
      record { roots = s.roots; items = put_all t (means.of_var σ x.node v st ∙ ap Some (all_at b (head refl))) s.items; binds = a }

  pub new_down : (v : ℕ) → Stands p x.node (var v) → Solves g p R l B ρ σ → Solves g p R r (B ++ (held v x.reg ∷ [])) ρ σ
  new_down v st s = let (h, a) = took_all t s.items in
      let e : Some (σ v) ≡ Some (at ρ x.reg) = sym (means.of_var σ x.node v st) ∙ h in
      record { roots = s.roots; items = a; binds = all_append s.binds (cons {x = held v x.reg} (cc) nil) }

  -- a variable met again, at the register j before
  pub again_up : (v : ℕ) (j : Reg) → Stands p x.node (var v) → Mem (held v j) B → at ρ x.reg ≡ at ρ j → Solves g p R r B ρ σ → Solves g p R l B ρ σ
  again_up v j st m e s = let h : σ v ≡ at ρ j = all_at {P = λ b. σ b.var ≡ at ρ b.reg} s.binds m in
      record { roots = s.roots; items = put_all t (means.of_var σ x.node v st ∙ ap Some (h ∙ sym e)) s.items; binds = s.binds }

  pub again_down : (v : ℕ) (j : Reg) → Stands p x.node (var v) → Mem (held v j) B → Solves g p R l B ρ σ → (at ρ x.reg ≡ at ρ j) × Solves g p R r B ρ σ
  again_down v j st m s = let (i, a) = took_all t s.items in
      let h : σ v ≡ at ρ j = all_at {P = λ b. σ b.var ≡ at ρ b.reg} s.binds m in
      let e : Some (σ v) ≡ Some (at ρ x.reg) = sym (means.of_var σ x.node v st) ∙ i in
      let f : σ v ≡ at ρ x.reg = cc in
      (sym f ∙ h, record { roots = s.roots; items = a; binds = s.binds })

-- a ground node has the same instance under what the registers give
pub look_same : {g : Graph} {p : Pattern} (means : Means g p) (B H : List Held) (ρ : List ℕ) (σ : ℕ → ℕ) (n : ℕ)
    → NoDup (vars H) → ((b : Held) → Mem b B → Mem b H) → ((v : ℕ) → Mem v (free p n) → Mem v (vars B))
    → All (λ b. σ b.var ≡ at ρ b.reg) B → inst g p (gives H ρ) n ≡ inst g p σ n
unfolding gives vars
look_same means B H ρ σ n d keep ground a = means.of_free (asg (vars H) (row H ρ)) σ n
    (λ v m. let (b, k, e) = from_map (λ (b : Held). b.var) B (ground v m) in rw e (asg_row H ρ b d (keep b k) ∙ sym (all_at {P = λ b. σ b.var ≡ at ρ b.reg} a k)))

-- what a node that fits is
pub fits_op : (o a : ℕ) (n : Node) → fits o a n ≡ true → n.op ≡ o
unfolding fits
fits_op o a n h = eqb-true n.op o (and_left _ _ h)

pub fits_long : (o a : ℕ) (n : Node) → fits o a n ≡ true → length n.kids ≡ a
unfolding fits
fits_long o a n h = eqb-true (length n.kids) a (and_right _ _ h)

pub fits_is : (o : ℕ) (ks : List ℕ) (a : ℕ) → length ks ≡ a → fits o a (node o ks) ≡ true
unfolding fits
fits_is o ks a e = and_both (eq-eqb o o refl) (eq-eqb (length ks) a e)

module _ {g : Graph} {p : Pattern} (reads : Reads g) (means : Means g p) {R : List Root} {x : Item} {l r : List Item} {B : List Held} {k : ℕ}
    (ρ : List ℕ) (o : ℕ) (cs : List ℕ) (t : Took x l r) (file : File g k ρ) (fit : Fit l B k) (st : Stands p x.node (op o cs)) (σ : ℕ → ℕ) where
  -- the children's instances are the node's children
  pub spread_kids : (n : Node) → fits o (length cs) n ≡ true → Solves g p R (number k cs ++ r) B (ρ ++ n.kids) σ → map (inst g p σ) cs ≡ map Some n.kids
  spread_kids n h s = numbered (inst g p σ) cs n.kids ρ (ρ ++ n.kids) k file.long refl (fits_long o (length cs) n h) (all_split (number k cs) s.items).0

  pub spread_up : (n : Node) → Mem n (nodes_of g (at ρ x.reg)) → fits o (length cs) n ≡ true
      → Solves g p R (number k cs ++ r) B (ρ ++ n.kids) σ → Solves g p R l B ρ σ
  spread_up n m h s =
      let is : node o n.kids ≡ n = ap (λ z. node z n.kids) (sym (fits_op o (length cs) n h)) in
      let e : inst g p σ x.node ≡ Some (at ρ x.reg) = means.of_op σ x.node o cs st ∙ rw (spread_kids n h s) (all_some_lem n.kids (lookup g o)) ∙ reads.found o n.kids (at ρ x.reg) (mem-cast is m) in
      record {
        roots = s.roots;
        items = put_all t e (all_map2 (λ y b i. i ∙ ap Some (same_at ρ n.kids k y.reg file.long b)) (took_all t fit.items).1 (all_split (number k cs) s.items).1);
        binds = all_map2 (λ y b i. i ∙ same_at ρ n.kids k y.reg file.long b) fit.binds s.binds;
      }

  pub spread_down : Solves g p R l B ρ σ → (n : Node) × Mem n (nodes_of g (at ρ x.reg)) × ((fits o (length cs) n ≡ true) × Solves g p R (number k cs ++ r) B (ρ ++ n.kids) σ)
  spread_down s = let (h, a) = took_all t s.items in
      let (ks, e, f) = some_all (map (inst g p σ) cs) (lookup g o) (at ρ x.reg) (sym (means.of_op σ x.node o cs st) ∙ h) in (
        node o ks,
        reads.listed o ks (at ρ x.reg) f,
        (
          fits_is o ks (length cs) (somes_length (inst g p σ) cs ks e),
          record {
            roots = s.roots;
            items = all_append (to_numbered (inst g p σ) cs ks ρ (ρ ++ ks) k file.long refl e)
                (all_map2 (λ y b i. i ∙ ap Some (sym (same_at ρ ks k y.reg file.long b))) (took_all t fit.items).1 a);
            binds = all_map2 (λ y b i. i ∙ sym (same_at ρ ks k y.reg file.long b)) fit.binds s.binds;
          },
        ),
      )

  pub spread_same : (n m : Node) → (fits o (length cs) n ≡ true) × Solves g p R (number k cs ++ r) B (ρ ++ n.kids) σ
      → (fits o (length cs) m ≡ true) × Solves g p R (number k cs ++ r) B (ρ ++ m.kids) σ → n ≡ m
  spread_same n m a b = ap₂ node (fits_op o (length cs) n a.0 ∙ sym (fits_op o (length cs) m b.0))
      (somes n.kids m.kids (sym (spread_kids n a.0 a.1) ∙ spread_kids m b.0 b.1))

-- a binder already bound
pub join_up : {g : Graph} {p : Pattern} (means : Means g p) {R : List Root} {B : List Held} {k : ℕ} (q : Root) (ρ : List ℕ) (σ : ℕ → ℕ) (v : ℕ) (j : Reg)
    → File g k ρ → Fit [] B k → Stands p q.binder (var v) → Mem (held v j) B → Solves g p R (item q.top j ∷ []) B ρ σ → Solves g p (q ∷ R) [] B ρ σ
join_up {g} {p} means {k = k} q ρ σ v j file fit st m s =
    let e : σ v ≡ at ρ j = all_at {P = λ b. σ b.var ≡ at ρ b.reg} s.binds m in
    let h : j.0 < k = all_at {P = λ b. b.reg.0 < k} fit.binds m in
    let i : inst g p σ q.top ≡ Some (at ρ j) = all_at {P = λ x. inst g p σ x.node ≡ Some (at ρ x.reg)} {x = item q.top j} s.items (head refl) in
    record {
      roots = cons (record { class = at ρ j; known = class_at_lem g ρ j file.known (rw file.long h); binder = means.of_var σ q.binder v st ∙ ap Some e; top = i }) s.roots;
      items = nil;
      binds = s.binds;
    }

pub join_down : {g : Graph} {p : Pattern} (means : Means g p) {R : List Root} {B : List Held} (q : Root) (ρ : List ℕ) (σ : ℕ → ℕ) (v : ℕ) (j : Reg)
    → Stands p q.binder (var v) → Mem (held v j) B → Solves g p (q ∷ R) [] B ρ σ → Solves g p R (item q.top j ∷ []) B ρ σ
join_down {g} {p} means {R} {B} q ρ σ v j st m s = go s.roots
  where
    go : All (λ q. Joined g p σ q) (q ∷ R) → Solves g p R (item q.top j ∷ []) B ρ σ
    go (cons J a) =
        let e : σ v ≡ at ρ j = all_at {P = λ b. σ b.var ≡ at ρ b.reg} s.binds m in
        let f : Some (σ v) ≡ Some J.class = sym (means.of_var σ q.binder v st) ∙ J.binder in
        let h : J.class ≡ at ρ j = cc in
        record { roots = a; items = cons {x = item q.top j} (J.top ∙ ap Some h) nil; binds = s.binds }

-- a new binder: any class
pub scan_up : {g : Graph} {p : Pattern} {R : List Root} {B : List Held} {k : ℕ} (q : Root) (ρ : List ℕ) (σ : ℕ → ℕ) (c : ℕ)
    → File g k ρ → Fit [] B k → Mem c (ids g) → Solves g p R (item q.top (reg k) ∷ item q.binder (reg k) ∷ []) B (ρ ++ (c ∷ [])) σ → Solves g p (q ∷ R) [] B ρ σ
scan_up {g} {p} {R} {B} {k} q ρ σ c file fit m s = go s.items
  where
    last : at (ρ ++ (c ∷ [])) (reg k) ≡ c
    last = rw (← file.long) (get_or-append_seam ρ c [] 0)

    go : All (λ x. inst g p σ x.node ≡ Some (at (ρ ++ (c ∷ [])) x.reg)) (item q.top (reg k) ∷ item q.binder (reg k) ∷ []) → Solves g p (q ∷ R) [] B ρ σ
    go (cons a (cons b nil)) = record {
      roots = cons (record { class = c; known = m; binder = b ∙ ap Some last; top = a ∙ ap Some last }) s.roots;
      items = nil;
      binds = all_map2 (λ y b i. i ∙ same_at ρ (c ∷ []) k y.reg file.long b) fit.binds s.binds;
    }

pub scan_down : {g : Graph} {p : Pattern} {R : List Root} {B : List Held} {k : ℕ} (q : Root) (ρ : List ℕ) (σ : ℕ → ℕ)
    → File g k ρ → Fit [] B k → Solves g p (q ∷ R) [] B ρ σ
    → (c : ℕ) × Mem c (ids g) × Solves g p R (item q.top (reg k) ∷ item q.binder (reg k) ∷ []) B (ρ ++ (c ∷ [])) σ
scan_down {g} {p} {R} {B} {k} q ρ σ file fit s = go s.roots
  where
    go : All (λ q. Joined g p σ q) (q ∷ R) → (c : ℕ) × Mem c (ids g) × Solves g p R (item q.top (reg k) ∷ item q.binder (reg k) ∷ []) B (ρ ++ (c ∷ [])) σ
    go (cons J a) =
        let last : at (ρ ++ (J.class ∷ [])) (reg k) ≡ J.class = rw (← file.long) (get_or-append_seam ρ J.class [] 0) in (
          J.class,
          J.known,
          record {
            roots = a;
            items = cons {x = item q.top (reg k)} (J.top ∙ ap Some (sym last)) (cons {x = item q.binder (reg k)} (J.binder ∙ ap Some (sym last)) nil);
            binds = all_map2 (λ y b i. i ∙ sym (same_at ρ (J.class ∷ []) k y.reg file.long b)) fit.binds s.binds;
          },
        )

pub scan_same : {g : Graph} {p : Pattern} {R : List Root} {B : List Held} {k : ℕ} (q : Root) (ρ : List ℕ) (σ : ℕ → ℕ) (a b : ℕ) → File g k ρ
    → Solves g p R (item q.top (reg k) ∷ item q.binder (reg k) ∷ []) B (ρ ++ (a ∷ [])) σ
    → Solves g p R (item q.top (reg k) ∷ item q.binder (reg k) ∷ []) B (ρ ++ (b ∷ [])) σ → a ≡ b
scan_same {g} {p} {k = k} q ρ σ a b file s t =
    let i : inst g p σ q.top ≡ Some (at (ρ ++ (a ∷ [])) (reg k)) = all_at {P = λ x. inst g p σ x.node ≡ Some (at (ρ ++ (a ∷ [])) x.reg)} {x = item q.top (reg k)} s.items (head refl) in
    let j : inst g p σ q.top ≡ Some (at (ρ ++ (b ∷ [])) (reg k)) = all_at {P = λ x. inst g p σ x.node ≡ Some (at (ρ ++ (b ∷ [])) x.reg)} {x = item q.top (reg k)} t.items (head refl) in
    let e : at (ρ ++ (a ∷ [])) (reg k) ≡ a = rw (← file.long) (get_or-append_seam ρ a [] 0) in
    let f : at (ρ ++ (b ∷ [])) (reg k) ≡ b = rw (← file.long) (get_or-append_seam ρ b [] 0) in
    cc

-- the same items in another order
pub mixed : {g : Graph} {p : Pattern} {R : List Root} {l r : List Item} {B : List Held} {ρ : List ℕ} {σ : ℕ → ℕ}
    → ((x : Item) → Mem x r → Mem x l) → Solves g p R l B ρ σ → Solves g p R r B ρ σ
mixed {g} {p} {r = r} {ρ = ρ} {σ = σ} f s = record {
  roots = s.roots;
  items = all_of r (λ x m. all_at {P = λ x. inst g p σ x.node ≡ Some (at ρ x.reg)} s.items (f x m));
  binds = s.binds;
}
