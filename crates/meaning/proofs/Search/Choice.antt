-- Which item is taken next, and what it gives: document 01's words, and the computed choice is that. Assumes nothing.
use Rattle.std.proofs.Common.{ℕ, zero, suc, ◌<◌, ◌≡◌, List, [], ◌∷◌, ◌⊎◌, Bool, false, cond, not, length, get_or, eqb, ltb, ◌∙◌, inl, inr, eq-or-lt_of_le, le_of_suc-le-suc, eqb-true, eq-eqb, ltb-true, lt-ltb, arith}
use Rattle.std.proofs.Math.Path.{refl, sym, ap}
use mathlib.Core.List.Memᴰ.{head, tail}
use mathlib.Core.List.{Memᴰ as Mem}
use Rattle.std.proofs.Math.Logic.{⊎_elim}
use Rattle.std.proofs.Math.Bool.{true}
use borrow.Author.Tests.{eqb-false, ne_eqb}
use Rattle.meaning.specs.Tests.{and, apart, and_fails_left, and_fails_right}
use Rattle.meaning.specs.Graph.{smaller}
use Rattle.meaning.specs.Pattern.{op, Pattern, size}
use Rattle.meaning.specs.Program.{bind, lookat, Held}
use Rattle.meaning.specs.Compiler.{Item, Root, unbound, is_ground, late, ahead, best, choose, pick_at, is_leaf, taken}
use Rattle.meaning.proofs.Laws.Keys.{smaller_lt, smaller_eq, smaller_cases, smaller_trans}

module _ (p : Pattern) (B : List Held) where
  -- every free variable is bound now
  abbrev pub Ground : Item → Type 0
  Ground x = unbound p B x.node ≡ 0

  -- the same key: ground now, free variables not yet bound, size
  pub record SameKey (x y : Item) : Type 0 where
    pub free : unbound p B x.node ≡ unbound p B y.node
    pub size : size p x.node ≡ size p y.node

  -- x has the larger key, or the same key and the smaller node number, or that too and the smaller register
  pub data Ahead (x y : Item) : Type 0 where
    ground : Ground x → (Ground y → ⊥) → Ahead x y
    freer : (Ground x → ⊥) → (Ground y → ⊥) → unbound p B y.node < unbound p B x.node → Ahead x y
    leaner : unbound p B x.node ≡ unbound p B y.node → size p x.node < size p y.node → Ahead x y
    lower : SameKey x y → x.node < y.node → Ahead x y
    earlier : SameKey x y → x.node ≡ y.node → x.reg.0 < y.reg.0 → Ahead x y

  grounded : (x : Item) → Ground x → late (is_ground p B x.node) ≡ 0
  unfolding late is_ground
  grounded x g = rw (eq-eqb _ _ g)

  ungrounded : (x : Item) → (Ground x → ⊥) → late (is_ground p B x.node) ≡ 1
  unfolding late is_ground
  ungrounded x n = rw (ne_eqb _ _ n)

  lateness : (x : Item) → (Ground x × (late (is_ground p B x.node) ≡ 0)) ⊎ ((Ground x → ⊥) × (late (is_ground p B x.node) ≡ 1))
  lateness x = go (eqb (unbound p B x.node) 0) refl
    where
      go : (b : Bool) → eqb (unbound p B x.node) 0 ≡ b → (Ground x × (late (is_ground p B x.node) ≡ 0)) ⊎ ((Ground x → ⊥) × (late (is_ground p B x.node) ≡ 1))
      go true e = let g = eqb-true (unbound p B x.node) 0 e in inl (g, grounded x g)
      go false e = let n = eqb-false (unbound p B x.node) 0 e in inr (n, ungrounded x n)

  same_late : (x y : Item) → unbound p B x.node ≡ unbound p B y.node → late (is_ground p B x.node) ≡ late (is_ground p B y.node)
  unfolding is_ground
  same_late x y e = ap (λ n. late (eqb n 0)) e

  pub is_ahead : (x y : Item) → Ahead x y → ahead p B x y ≡ true
  unfolding ahead
  is_ahead x y (ground g n) = let a = grounded x g in let b = ungrounded y n in smaller_lt _ _ _ (omega arith)
  is_ahead x y (freer n m h) = smaller_eq _ _ _ (ungrounded x n ∙ sym (ungrounded y m)) ∙ smaller_lt _ _ _ h
  is_ahead x y (leaner e h) = smaller_eq _ _ _ (same_late x y e) ∙ smaller_eq _ _ _ (sym e) ∙ smaller_lt _ _ _ h
  is_ahead x y (lower s h) = smaller_eq _ _ _ (same_late x y s.free) ∙ smaller_eq _ _ _ (sym s.free) ∙ smaller_eq _ _ _ s.size ∙ smaller_lt _ _ _ h
  is_ahead x y (earlier s e h) = smaller_eq _ _ _ (same_late x y s.free) ∙ smaller_eq _ _ _ (sym s.free) ∙ smaller_eq _ _ _ s.size ∙ smaller_eq _ _ _ e ∙ lt-ltb _ _ h

  pub ahead_is : (x y : Item) → ahead p B x y ≡ true → Ahead x y
  unfolding ahead
  ahead_is x y h = first (lateness x) (lateness y) (smaller_cases _ _ _ h)
    where
      nodes : SameKey x y → smaller x.node y.node (ltb x.reg.0 y.reg.0) ≡ true → Ahead x y
      nodes s h = ⊎_elim (λ l. lower s l) (λ r. earlier s r.0 (ltb-true _ _ r.1)) (smaller_cases _ _ _ h)

      sizes : unbound p B x.node ≡ unbound p B y.node → smaller (size p x.node) (size p y.node) (smaller x.node y.node (ltb x.reg.0 y.reg.0)) ≡ true → Ahead x y
      sizes e h = ⊎_elim (λ l. leaner e l) (λ r. nodes (record { free = e; size = r.0 }) r.1) (smaller_cases _ _ _ h)

      rest : Bool
      rest = smaller (unbound p B y.node) (unbound p B x.node) (smaller (size p x.node) (size p y.node) (smaller x.node y.node (ltb x.reg.0 y.reg.0)))

      frees : ((Ground x → ⊥) × (Ground y → ⊥)) ⊎ (Ground x × Ground y) → rest ≡ true → Ahead x y
      frees (inl n) h = ⊎_elim (λ l. freer n.0 n.1 l) (λ r. sizes (sym r.0) r.1) (smaller_cases _ _ _ h)
      frees (inr g) h = ⊎_elim (λ l. absurd (let a = g.0 in let b = g.1 in omega arith)) (λ r. sizes (sym r.0) r.1) (smaller_cases _ _ _ h)

      first : (Ground x × (late (is_ground p B x.node) ≡ 0)) ⊎ ((Ground x → ⊥) × (late (is_ground p B x.node) ≡ 1))
          → (Ground y × (late (is_ground p B y.node) ≡ 0)) ⊎ ((Ground y → ⊥) × (late (is_ground p B y.node) ≡ 1))
          → (late (is_ground p B x.node) < late (is_ground p B y.node)) ⊎ ((late (is_ground p B x.node) ≡ late (is_ground p B y.node)) × (rest ≡ true)) → Ahead x y
      first (inl g) (inr n) k = ground g.0 n.0
      first (inl g) (inl m) (inl l) = absurd (let a = g.1 in let b = m.1 in omega arith)
      first (inl g) (inl m) (inr r) = frees (inr (g.0, m.0)) r.1
      first (inr n) (inl m) (inl l) = absurd (let a = n.1 in let b = m.1 in omega arith)
      first (inr n) (inl m) (inr r) = absurd (let a = n.1 in let b = m.1 in let e = r.0 in omega arith)
      first (inr n) (inr m) (inl l) = absurd (let a = n.1 in let b = m.1 in omega arith)
      first (inr n) (inr m) (inr r) = frees (inl (n.0, m.0)) r.1

  pub ahead_trans : (x y z : Item) → ahead p B x y ≡ true → ahead p B y z ≡ true → ahead p B x z ≡ true
  unfolding ahead
  ahead_trans x y z h k = smaller_trans _ _ _ _ _ _
      (λ a b. smaller_trans (unbound p B z.node) (unbound p B y.node) (unbound p B x.node) _ _ _
      (λ d c. smaller_trans (size p x.node) (size p y.node) (size p z.node) _ _ _
      (smaller_trans x.node y.node z.node _ _ _
      (λ e f. lt-ltb x.reg.0 z.reg.0 (let u = ltb-true x.reg.0 y.reg.0 e in let v = ltb-true y.reg.0 z.reg.0 f in omega arith))) c d) b a) h k

  pub ahead_irrefl : (x : Item) → ahead p B x x ≡ true → ⊥
  unfolding ahead
  ahead_irrefl x h = let e = sym (smaller_eq _ _ _ refl ∙ smaller_eq _ _ _ refl ∙ smaller_eq _ _ _ refl ∙ smaller_eq _ _ _ refl) ∙ h in
      let l = ltb-true x.reg.0 x.reg.0 e in omega arith

-- no item goes before the one at the best place
best_first : (before : Item → Item → Bool) → ((x y z : Item) → before x y ≡ true → before y z ≡ true → before x z ≡ true) → ((x : Item) → before x x ≡ true → ⊥)
    → (d : Item) (l : List Item) (n i : ℕ) → i < n → before (get_or l i d) (get_or l (best before d l n) d) ≡ true → ⊥
unfolding best
best_first before tr ir d l zero i h = absurd (omega arith)
best_first before tr ir d l (suc n) i h = go (before (get_or l n d) (get_or l (best before d l n) d)) refl (λ k. best_first before tr ir d l n i k)
  where
    go : (b : Bool) → before (get_or l n d) (get_or l (best before d l n) d) ≡ b → (i < n → before (get_or l i d) (get_or l (best before d l n) d) ≡ true → ⊥)
        → before (get_or l i d) (get_or l (cond b n (best before d l n)) d) ≡ true → ⊥
    go true e f k = ⊎_elim (λ q. ir (get_or l n d) (rw q at k)) (λ q. f q (tr (get_or l i d) (get_or l n d) (get_or l (best before d l n) d) k e)) (eq-or-lt_of_le (le_of_suc-le-suc h))
    go false e f k = ⊎_elim (λ q. apart (sym (rw q at k) ∙ e)) (λ q. f q k) (eq-or-lt_of_le (le_of_suc-le-suc h))

mem_place : (d : Item) (l : List Item) (y : Item) → Mem y l → (i : ℕ) × (i < length l) × (y ≡ get_or l i d)
mem_place d [] y m = elim m [ ]
mem_place d (x ∷ l) y (head e) = (0, omega arith, e)
mem_place d (x ∷ l) y (tail m) = let (i, h, e) = mem_place d l y m in (suc i, omega arith, e)

-- THE CHOICE: no waiting item has a larger key, nor the same key and a smaller node number, nor that too and a smaller register
pub chosen : (p : Pattern) (B : List Held) (x : Item) (l : List Item) (y : Item) → Mem y (x ∷ l) → Ahead p B y (choose (ahead p B) x l).took → ⊥
unfolding choose pick_at
chosen p B x l y m a = let (i, h, e) = mem_place x (x ∷ l) y m in
    best_first (ahead p B) (ahead_trans p B) (ahead_irrefl p B) x (x ∷ l) (suc (length l)) i h (rw e at (is_ahead p B y (choose (ahead p B) x l).took a))

-- WHAT IT GIVES: Lookup if it is ground and no leaf, else Bind
pub looked_up : (p : Pattern) (o c : ℕ) (cs : List ℕ) (x : Item) (R : List Root) (t : List Item) (B : List Held) (k : ℕ) → Ground p B x
    → (taken p (op o (c ∷ cs)) x R t B k).emits ≡ lookat (length R) x.node x.reg ∷ []
unfolding taken is_ground is_leaf and
looked_up p o c cs x R t B k g = rw (eq-eqb _ _ g)

pub bound : (p : Pattern) (o : ℕ) (cs : List ℕ) (x : Item) (R : List Root) (t : List Item) (B : List Held) (k : ℕ) → (Ground p B x → ⊥) ⊎ (cs ≡ [])
    → (taken p (op o cs) x R t B k).emits ≡ bind (length R) x.node o (length cs) x.reg ∷ []
unfolding taken is_leaf
bound p o cs x R t B k (inl n) = rw (and_fails_left (not (is_leaf cs)) (not_ground n))
  where
    not_ground : (Ground p B x → ⊥) → is_ground p B x.node ≡ false
    not_ground n = unfold is_ground in ne_eqb _ _ n
bound p o cs x R t B k (inr e) = rw (e, and_fails_right (is_ground p B x.node) {b = false} refl)
