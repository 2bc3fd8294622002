-- Programs, their paths and rows. Assumes nothing.
use Rattle.std.specs.Prelude.{ℕ, suc, cond, get_or, eqb}
use mathlib.Core.List.{List, [], ◌∷◌, ◌++◌, map, flat_map}
use Rattle.meaning.specs.declared.Reg.{Reg}
use Rattle.meaning.specs.Tests.{is_class}
use Rattle.meaning.specs.Graph.{Graph, nodes_of, ids, fits}
use Rattle.meaning.specs.Pattern.{Pattern}
use Rattle.meaning.specs.Instance.{inst}

abbrev pub reg : ℕ → Reg
reg n = record { 0 = n }

-- Each instruction says first how many patterns were still to come when it was written.
-- bind: pattern node, operator, arity, register read; compare: the newly met register, that of the first binding;
-- lookat: pattern node, register compared with; scan. Bind and scan write the registers that follow those so far.
pub data Instr : Type 0 where
  bind : ℕ → ℕ → ℕ → ℕ → Reg → Instr
  compare : ℕ → Reg → Reg → Instr
  lookat : ℕ → ℕ → Reg → Instr
  scan : ℕ → Instr

-- a variable and its register
pub record Held : Type 0 where
  pub var : ℕ
  pub reg : Reg

abbrev pub held : ℕ → Reg → Held
held v r = record { var = v; reg = r }

-- the class in a register
abbrev pub at : List ℕ → Reg → ℕ
at ρ r = get_or ρ r.0 0

unfoldable pub vars : List Held → List ℕ
vars H = map (λ b. b.var) H

-- the classes in the variables' registers
unfoldable pub row : List Held → List ℕ → List ℕ
row H ρ = map (λ b. at ρ b.reg) H

-- a row read as an assignment
unfoldable pub asg : List ℕ → List ℕ → ℕ → ℕ
asg [] w v = 0
asg (u ∷ us) [] v = 0
asg (u ∷ us) (x ∷ w) v = cond (eqb u v) x (asg us w v)

-- what the registers give the variables
unfoldable pub gives : List Held → List ℕ → ℕ → ℕ
gives H ρ = asg (vars H) (row H ρ)

-- the choices made, for a Bind the node's place in its class and for a Scan the class's place, and the registers
pub record Path : Type 0 where
  pub choices : List ℕ
  pub regs : List ℕ

abbrev pub path : List ℕ → List ℕ → Path
path ks ρ = record { choices = ks; regs = ρ }

abbrev pub chose : ℕ → Path → Path
chose k π = path (k ∷ π.choices) π.regs

-- f at each of the list, with its place
unfoldable pub walk : {A B : Type 0} → (ℕ → A → List B) → ℕ → List A → List B
walk f k [] = []
walk f k (a ∷ l) = f k a ++ walk f (suc k) l

-- the paths of a program from its registers, in order
unfoldable pub paths : Graph → Pattern → List Held → List Instr → List ℕ → List Path
paths g p H [] ρ = path [] ρ ∷ []
paths g p H (bind q m o a i ∷ is) ρ = walk (λ k n. cond (fits o a n) (map (chose k) (paths g p H is (ρ ++ n.kids))) []) 0 (nodes_of g (at ρ i))
paths g p H (compare q i j ∷ is) ρ = cond (eqb (at ρ i) (at ρ j)) (paths g p H is ρ) []
paths g p H (lookat q n i ∷ is) ρ = cond (is_class (inst g p (gives H ρ) n) (at ρ i)) (paths g p H is ρ) []
paths g p H (scan q ∷ is) ρ = walk (λ k c. map (chose k) (paths g p H is (ρ ++ (c ∷ [])))) 0 (ids g)

-- the same, as rows
unfoldable pub rows : Graph → Pattern → List Held → List Instr → List ℕ → List (List ℕ)
rows g p H [] ρ = row H ρ ∷ []
rows g p H (bind q m o a i ∷ is) ρ = flat_map (λ n. cond (fits o a n) (rows g p H is (ρ ++ n.kids)) []) (nodes_of g (at ρ i))
rows g p H (compare q i j ∷ is) ρ = cond (eqb (at ρ i) (at ρ j)) (rows g p H is ρ) []
rows g p H (lookat q n i ∷ is) ρ = cond (is_class (inst g p (gives H ρ) n) (at ρ i)) (rows g p H is ρ) []
rows g p H (scan q ∷ is) ρ = flat_map (λ c. rows g p H is (ρ ++ (c ∷ []))) (ids g)
