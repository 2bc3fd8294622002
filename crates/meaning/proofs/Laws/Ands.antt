-- A conjunction of tests, made one after another. Assumes nothing.
use Rattle.std.proofs.Common.{ℕ, ◌<◌, ◌≤◌, ◌≡◌, Bool, true, false, eqb, ltb, leb, sym, ◌∙◌, lt-ltb, le-ltb, eq-eqb, ne_eqb, le-leb}
use Rattle.std.proofs.lemmas.Bool.{lt-leb}
use Rattle.meaning.specs.Tests.{and}

-- the first test passes, and the others decide
pub and_true : {a r s : Bool} → a ≡ true → r ≡ s → r ≡ and a s
unfolding and
and_true h e = rw h e

-- the first test fails
pub and_false : {a : Bool} (s : Bool) → a ≡ false → false ≡ and a s
unfolding and
and_false s h = rw h

pub and_lt : {a b : ℕ} {r s : Bool} → a < b → r ≡ s → r ≡ and (ltb a b) s
and_lt {a} {b} h e = and_true (lt-ltb a b h) e

pub and_not_lt : {a b : ℕ} (s : Bool) → b ≤ a → false ≡ and (ltb a b) s
and_not_lt {a} {b} s h = and_false s (le-ltb a b h)

pub and_le : {a b : ℕ} {r s : Bool} → a ≤ b → r ≡ s → r ≡ and (leb a b) s
and_le {a} {b} h e = and_true (le-leb a b h) e

pub and_not_le : {a b : ℕ} (s : Bool) → b < a → false ≡ and (leb a b) s
and_not_le {a} {b} s h = and_false s (lt-leb a b h)

pub and_eq : {a b : ℕ} {r s : Bool} → a ≡ b → r ≡ s → r ≡ and (eqb a b) s
and_eq {a} {b} h e = and_true (eq-eqb a b h) e

pub and_ne : {a b : ℕ} (s : Bool) → (a ≡ b → ⊥) → false ≡ and (eqb a b) s
and_ne {a} {b} s h = and_false s (ne_eqb a b h)

pub ruleset ands = (and_true, and_false, and_lt, and_not_lt, and_le, and_not_le, and_eq, and_ne)
