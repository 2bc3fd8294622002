-- Document 01's tables with their numbers, 11 and 14 among them. proofs/Numbers.antt computes them.
use Rattle.std.specs.Prelude.{ℕ, List, [], ◌∷◌, ◌++◌, Bool, true, eqb, set, take}
use Rattle.meaning.specs.Tests.{and}
use Rattle.meaning.specs.Refusal.{refusal_of}

-- a, b, f(a,a), f(a,b)
unfoldable pub T : List ℕ
T =
    4 ∷ 4 ∷ 4 ∷ 4 ∷ 9 ∷ 13 ∷ 25 ∷ 41 ∷ 45
    ∷ 0 ∷ 1 ∷ 2 ∷ 3
    ∷ 0 ∷ 0 ∷ 1 ∷ 1 ∷ 1 ∷ 1 ∷ 2 ∷ 2 ∷ 1 ∷ 3 ∷ 3 ∷ 1
    ∷ 1 ∷ 0 ∷ 0 ∷ 0 ∷ 2 ∷ 0 ∷ 0 ∷ 1 ∷ 10 ∷ 2 ∷ 0 ∷ 2 ∷ 10 ∷ 2 ∷ 2 ∷ 3
    ∷ 0 ∷ 0 ∷ 0 ∷ 1
    ∷ 0 ∷ 1 ∷ 2 ∷ 3 ∷ []

-- a and g(0) in one class
unfoldable pub Loop : List ℕ
Loop =
    1 ∷ 1 ∷ 2 ∷ 1 ∷ 9 ∷ 10 ∷ 13 ∷ 21 ∷ 22
    ∷ 0
    ∷ 0 ∷ 0 ∷ 2
    ∷ 1 ∷ 0 ∷ 0 ∷ 0 ∷ 5 ∷ 1 ∷ 0 ∷ 0
    ∷ 0
    ∷ 0 ∷ 1 ∷ []

-- no class at all
unfoldable pub Empty : List ℕ
Empty = 0 ∷ 0 ∷ 0 ∷ 0 ∷ 9 ∷ 9 ∷ 9 ∷ 9 ∷ 9 ∷ []

pub record Case : Type 0 where
  pub table : List ℕ
  pub number : ℕ

abbrev pub gives : List ℕ → ℕ → Case
gives t n = record { table = t; number = n }

unfoldable pub all_right : List Case → Bool
all_right [] = true
all_right (c ∷ r) = and (eqb (refusal_of c.table) c.number) (all_right r)

unfoldable pub tables : List Case
tables =
    gives T 0
    ∷ gives Loop 0
    ∷ gives Empty 0
    ∷ gives (set T 48 2) 6
    ∷ gives (take 8 T) 1
    ∷ gives (T ++ (0 ∷ [])) 1
    ∷ gives (set T 0 65537) 2
    ∷ gives (set T 5 14) 1
    ∷ gives (set T 9 1) 4
    ∷ gives (set T 9 4) 3
    ∷ gives (set T 14 1) 4
    ∷ gives (set T 28 1) 5
    ∷ gives (set T 44 4) 5
    ∷ []
