-- The numbers of the kinds of nodes. Assumes nothing.
use Rattle.std.specs.Prelude.{ℕ, ◌<◌, ◌≡◌, Result, MatchResult}
use Rattle.pattern.specs.declared.kind.Kind.{Kind}
use Rattle.pattern.specs.declared.kind.Kind.TheVariants.{Variable, Operator}
use Rattle.pattern.specs.declared.kind.UnknownKind.{UnknownKind}

abbrev pub number : Kind → ℕ
number Variable = 0
number Operator = 1

-- the kind that the number names, or an error that keeps a number that names none
abbrev pub Names : ℕ → Result Kind UnknownKind → Type 0
Names n r = MatchResult r (λ k. n ≡ number k) (λ e. (e.0 ≡ n) × (1 < n))
