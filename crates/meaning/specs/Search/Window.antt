-- A pattern's words as a part of a list of nodes, and sets of its variables by their places. Assumes nothing.
use Rattle.std.specs.Prelude.{ℕ, ◌+◌, ◌-◌, ◌^◌, ◌<◌, ◌≤◌, ◌≡◌, refl, List, map, ◌⊎◌, true, not, length, Option, None, Some}
use Rattle.std.proofs.Common.{sym, ap, ◌∙◌, inl, inr, ⊎_elim, eq-eqb, ne_eqb, lt_of_le_of_lt, arith}
use mathlib.Core.List.{Memᴰ as Mem}
use Rattle.std.specs.Int.Bits.{bit_and, bit_or}
use Rattle.std.proofs.lemmas.Nat.{or_lt, and_le_l}
use Rattle.std.specs.Int.Count.{ones}
use Rattle.std.proofs.Math.Pow.{pow-lt}
use Rattle.std.proofs.lemmas.Bool.{not-true}
use Rattle.meaning.specs.declared.Reg.{Reg}
use Rattle.meaning.specs.Tests.{and, apart, and_left, and_right, and_both, not_true_false}
use Rattle.meaning.specs.Lists.{NoDup}
use Rattle.meaning.specs.Words.{word}
use Rattle.meaning.specs.Pattern.{var, op, Pattern, node_of}
use Rattle.meaning.specs.PatternWords.{kind_at, number_at, children_of, pnode_at}
use Rattle.meaning.specs.Program.{Held, vars}
use Rattle.meaning.specs.Compiler.{reg_of, unbound_in}
use Rattle.meaning.specs.Multi.{shift_node}
use Rattle.meaning.specs.Masks.{bit_in}
use Rattle.meaning.specs.Laws.Masks.{in_or, or_left, or_right, in_one, one_in, in_zero, in_without, ones_count, count_same}
use Rattle.meaning.specs.Search.Bindings.{reg_mem, reg_none, mem_var}
use Rattle.meaning.specs.Search.Counting.{unbound_count}

-- the nodes of w stand in P from base on
pub record Window (P : Pattern) (base : ℕ) (w : List ℕ) : Type 0 where
  pub inside : base + word w 0 ≤ length P
  pub node : (i : ℕ) → i < word w 0 → node_of P (base + i) ≡ shift_node base (pnode_at w i)

module _ {P : Pattern} {base : ℕ} {w : List ℕ} (s : Window P base w) (i : ℕ) (h : i < word w 0) where
  pub window_var : kind_at w i ≡ 0 → node_of P (base + i) ≡ var (number_at w i)
  unfolding pnode_at shift_node
  window_var e = s.node i h ∙ rw (eq-eqb (kind_at w i) 0 e)

  pub window_op : (kind_at w i ≡ 0 → ⊥) → node_of P (base + i) ≡ op (number_at w i) (map (λ c. base + c) (children_of w i))
  unfolding pnode_at shift_node
  window_op n = s.node i h ∙ rw (ne_eqb (kind_at w i) 0 n)

-- the set m has the places of the variables with S
pub record Places (w : List ℕ) (m : ℕ) (S : ℕ → Type 0) : Type 0 where
  pub small : m < 2 ^ 64
  pub inside : (i : ℕ) → bit_in m i ≡ true → i < word w 0
  pub variable : (i : ℕ) → bit_in m i ≡ true → kind_at w i ≡ 0
  pub sound : (i : ℕ) → bit_in m i ≡ true → S (number_at w i)
  pub complete : (v : ℕ) → S v → (i : ℕ) × (bit_in m i ≡ true) × (number_at w i ≡ v)

pub places_shift : {w : List ℕ} {m : ℕ} {S U : ℕ → Type 0} → ((v : ℕ) → S v → U v) → ((v : ℕ) → U v → S v) → Places w m S → Places w m U
places_shift f g p = record { small = p.small; inside = p.inside; variable = p.variable; sound = λ i h. f _ (p.sound i h); complete = λ v u. p.complete v (g v u) }

pub places_none : (w : List ℕ) (S : ℕ → Type 0) → ((v : ℕ) → S v → ⊥) → Places w 0 S
places_none w S n = record {
  small = omega arith;
  inside = λ i h. apart (sym h ∙ in_zero i);
  variable = λ i h. apart (sym h ∙ in_zero i);
  sound = λ i h. apart (sym h ∙ in_zero i);
  complete = λ v u. absurd (n v u);
}

pub places_one : (w : List ℕ) (i : ℕ) → i < word w 0 → i < 64 → kind_at w i ≡ 0 → Places w (2 ^ i) (λ v. v ≡ number_at w i)
places_one w i h l e = record {
  small = pow-lt l;
  inside = λ j b. rw (in_one i j b) h;
  variable = λ j b. rw (in_one i j b) e;
  sound = λ j b. ap (number_at w) (in_one i j b);
  complete = λ v u. (i, one_in i, sym u);
}

pub places_or : {w : List ℕ} {a b : ℕ} {S U : ℕ → Type 0} → Places w a S → Places w b U → Places w (bit_or a b) (λ v. S v ⊎ U v)
places_or {w} {a} {b} p q = record {
  small = or_lt 64 a b p.small q.small;
  inside = λ i h. ⊎_elim (λ x. p.inside i x) (λ x. q.inside i x) (in_or a b i h);
  variable = λ i h. ⊎_elim (λ x. p.variable i x) (λ x. q.variable i x) (in_or a b i h);
  sound = λ i h. ⊎_elim (λ x. inl (p.sound i x)) (λ x. inr (q.sound i x)) (in_or a b i h);
  complete = λ v u. ⊎_elim (λ x. let (i, t, e) = p.complete v x in (i, or_left a b i t, e)) (λ x. let (i, t, e) = q.complete v x in (i, or_right a b i t, e)) u;
}

-- the set b has the places of w's variables that are bound, and no others of them
pub record BoundSet (w : List ℕ) (b : ℕ) (B : List Held) : Type 0 where
  pub small : b < 2 ^ 64
  pub sound : (i : ℕ) → i < word w 0 → kind_at w i ≡ 0 → bit_in b i ≡ true → Mem (number_at w i) (vars B)
  pub complete : (i : ℕ) → i < word w 0 → kind_at w i ≡ 0 → Mem (number_at w i) (vars B) → bit_in b i ≡ true

-- a variable has one place
abbrev pub OnePlace : List ℕ → Type 0
OnePlace w = (i j : ℕ) → i < word w 0 → j < word w 0 → kind_at w i ≡ 0 → kind_at w j ≡ 0 → number_at w i ≡ number_at w j → i ≡ j

not_bound : (B : List Held) (v : ℕ) → (Mem v (vars B) → ⊥) → reg_of B v ≡ None
not_bound B v n = go (reg_of B v) refl
  where
    go : (s : Option Reg) → reg_of B v ≡ s → s ≡ None
    go None e = refl
    go (Some r) e = absurd (n (mem_var (reg_mem B v r e)))

-- THE COUNT: ones of the free variables' set without the bound ones, as many as variables not yet bound
pub ones_unbound : (w : List ℕ) (m b : ℕ) (B : List Held) (l : List ℕ) → word w 0 ≤ 64 → OnePlace w → NoDup l → Places w m (λ v. Mem v l) → BoundSet w b B
    → ones (bit_and m (2 ^ 64 - 1 - b)) ≡ unbound_in B l
ones_unbound w m b B l few one d p q =
    ones_count 64 (bit_and m (2 ^ 64 - 1 - b)) (lt_of_le_of_lt (and_le_l m (2 ^ 64 - 1 - b)) p.small)
    ∙ count_same (bit_in (bit_and m (2 ^ 64 - 1 - b))) (λ i. and (bit_in m i) (not (bit_in b i))) 64 (λ i h. in_without 64 m b i q.small h)
    ∙ unbound_count B l (number_at w) (λ i. and (bit_in m i) (not (bit_in b i))) 64 d
    (λ i h t. let u = and_left _ _ t in (p.sound i u, not_bound B (number_at w i) (λ k. apart (sym (q.complete i (p.inside i u) (p.variable i u) k) ∙ not-true _ (and_right (bit_in m i) _ t)))))
    (λ v k e. let (i, t, g) = p.complete v k in
    let in-w = p.inside i t in
    (i, omega arith, and_both t (rw (not_true_false (bit_in b i) (λ x. reg_none B v e (rw g at (q.sound i in-w (p.variable i t) x))))), g))
    (λ i j s t e. let a = and_left _ _ s in let c = and_left _ _ t in one i j (p.inside i a) (p.inside j c) (p.variable i a) (p.variable j c) e)
