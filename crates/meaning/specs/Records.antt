-- A program as words: a record of seven for each instruction. Assumes nothing.
use Rattle.std.specs.Prelude.{ℕ, suc, ◌+◌, ◌-◌, List, [], ◌∷◌, map, length, get_or, take}
use Rattle.meaning.specs.Pattern.{Bound}
use Rattle.meaning.specs.Program.{Instr, bind, compare, lookat, scan}
use Rattle.meaning.specs.Multi.{tops}

-- a pattern's place, from the patterns that come after it, and the number of its first node, from its place
pub record Frame : Type 0 where
  pub place : ℕ → ℕ
  pub base : ℕ → ℕ

-- one pattern's own instructions, as the i-th
abbrev pub alone : ℕ → Frame
alone i = record { place = λ q. i; base = λ j. 0 }

-- a lone pattern
abbrev pub lone : Frame
lone = alone 0

-- the patterns of a multipattern: a binder stands before each one's nodes
unfoldable pub framed : List Bound → Frame
framed m = record { place = λ q. length m - suc q; base = λ i. suc (get_or (tops 0 m) i (record { binder = 0; top = 0 })).binder }

-- kind, pattern, node, register read, register written or compared with, operator, arity; k registers so far
unfoldable pub record_of : Frame → ℕ → Instr → List ℕ
record_of F k (bind q n o a i) = 0 ∷ F.place q ∷ (n - F.base (F.place q)) ∷ i.0 ∷ k ∷ o ∷ a ∷ []
record_of F k (compare q i j) = 1 ∷ F.place q ∷ 0 ∷ i.0 ∷ j.0 ∷ 0 ∷ 0 ∷ []
record_of F k (lookat q n i) = 2 ∷ F.place q ∷ (n - F.base (F.place q)) ∷ i.0 ∷ 0 ∷ 0 ∷ 0 ∷ []
record_of F k (scan q) = 3 ∷ F.place q ∷ 0 ∷ 0 ∷ k ∷ 0 ∷ 0 ∷ []

-- the registers after an instruction
unfoldable pub grown : ℕ → Instr → ℕ
grown k (bind q n o a i) = k + a
grown k (compare q i j) = k
grown k (lookat q n i) = k
grown k (scan q) = suc k

-- the records of a program, and the registers after it
unfoldable pub encode : Frame → ℕ → List Instr → List (List ℕ)
encode F k [] = []
encode F k (x ∷ is) = record_of F k x ∷ encode F (grown k x) is

unfoldable pub grown_by : ℕ → List Instr → ℕ
grown_by k [] = k
grown_by k (x ∷ is) = grown_by (grown k x) is

-- what support is shown: the first five words
unfoldable pub shown : List (List ℕ) → List (List ℕ)
shown l = map (take 5) l
