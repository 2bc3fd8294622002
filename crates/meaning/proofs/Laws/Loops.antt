-- Tests in a row: a loop that leaves at the first number that fails or at the first that passes, and two tests joined. Assumes nothing.
use Rattle.std.proofs.Common.{ℕ, ◌+◌, ◌<◌, ◌≤◌, ◌≡◌, Bool, true, false, not, refl, sym, ap, ◌∙◌, arith}
use Rattle.meaning.specs.Tests.{and, and_fails_left, all_below, all_more, all_fails}
use Rattle.meaning.specs.PatternRefusal.{some_below}
use Rattle.meaning.proofs.Laws.PatternRules.{found_some}

pub started : (p : ℕ → Bool) → all_below p 0 ≡ true
unfolding all_below
started p = refl

-- one more number passes
pub more : (p : ℕ → Bool) (x : ℕ) (r : Bool) → r ≡ p x → r ≡ true → all_below p x ≡ true → all_below p (x + 1) ≡ true
more p x r e h l = all_more p x (sym e ∙ h) l

-- one fails
pub broken : (p : ℕ → Bool) (n x : ℕ) (r : Bool) → r ≡ p x → r ≡ false → x < n → all_below p n ≡ false
broken p n x r e h l = all_fails p n x l (sym e ∙ h)

-- all have passed
pub passed : (p : ℕ → Bool) (n x : ℕ) → all_below p x ≡ true → x ≤ n → n ≤ x → all_below p n ≡ true
passed p n x h l g = let e : x ≡ n = omega arith in rw e at h

pub fails : (p : ℕ → Bool) (n x : ℕ) (r : Bool) → r ≡ p x → r ≡ false → x < n → false ≡ all_below p n
fails p n x r e h l = sym (broken p n x r e h l)

pub holds : (p : ℕ → Bool) (n x : ℕ) → all_below p x ≡ true → x ≤ n → n ≤ x → true ≡ all_below p n
holds p n x h l g = sym (passed p n x h l g)

pub ruleset loops = (started, more, fails, holds)

-- one more number fails
pub unmet : (p : ℕ → Bool) (x : ℕ) (r : Bool) → r ≡ p x → r ≡ false → all_below (λ y. not (p y)) x ≡ true → all_below (λ y. not (p y)) (x + 1) ≡ true
unmet p x r e h l = all_more (λ y. not (p y)) x (ap not (sym e ∙ h)) l

-- one passes
pub met : (p : ℕ → Bool) (n x : ℕ) (r : Bool) → r ≡ p x → r ≡ true → x < n → true ≡ some_below p n
met p n x r e h l = sym (found_some p n x l (sym e ∙ h))

-- none has passed
pub none_met : (p : ℕ → Bool) (n x : ℕ) → all_below (λ y. not (p y)) x ≡ true → x ≤ n → n ≤ x → false ≡ some_below p n
unfolding some_below
none_met p n x h l g = sym (ap not (passed (λ y. not (p y)) n x h l g))

-- two tests, the second made only if the first holds
pub both : (a b r s : Bool) → r ≡ a → r ≡ true → s ≡ b → s ≡ and a b
unfolding and
both a b r s e h d = rw (← e, h, ← d)

pub first_fails : (a b r : Bool) → r ≡ a → r ≡ false → false ≡ and a b
first_fails a b r e h = sym (and_fails_left b (sym e ∙ h))
