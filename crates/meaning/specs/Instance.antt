-- The instance of a pattern's node under an assignment, as 'Meaning' says. Assumes nothing.
use Rattle.std.specs.Prelude.{ℕ, ◌≡◌, List, [], ◌∷◌, map, Option, None, Some}
use mathlib.Core.List.{Memᴰ as Mem}
use Rattle.meaning.specs.Lists.{All}
use Rattle.meaning.specs.Graph.{Graph, lookup, ids}
use Rattle.meaning.specs.Pattern.{PNode, var, op, Pattern, Bound, root, value}

-- k of all the classes, if every one is there
unfoldable pub all_some : List (Option ℕ) → (List ℕ → Option ℕ) → Option ℕ
all_some [] k = k []
all_some (None ∷ r) k = None
all_some (Some c ∷ r) k = all_some r (λ cs. k (c ∷ cs))

-- a variable's instance is its class; an operator's is the class of the one node with that operator and its children's instances, or none
unfoldable pub inst_of : Graph → (ℕ → ℕ) → (ℕ → Option ℕ) → PNode → Option ℕ
inst_of g σ i (var v) = Some (σ v)
inst_of g σ i (op o cs) = all_some (map i cs) (lookup g o)

-- the instance of node n under the assignment σ
unfoldable pub inst : Graph → Pattern → (ℕ → ℕ) → ℕ → Option ℕ
inst g p σ = value None (inst_of g σ) p

-- a row belongs to class c when the root's instance is c
abbrev pub Matches : Graph → Pattern → ℕ → (ℕ → ℕ) → Type 0
Matches g p c σ = inst g p σ (root p) ≡ Some c

-- a pattern of a multipattern: its root's instance is its binder's class
pub record Met (g : Graph) (σ : ℕ → ℕ) (b : Bound) : Type 0 where
  pub known : Mem (σ b.binder) (ids g)
  pub same : inst g b.pat σ (root b.pat) ≡ Some (σ b.binder)

-- a multipattern at class c: the first binder's class is c, and every pattern is met
pub record Meets (g : Graph) (b : Bound) (m : List Bound) (c : ℕ) (σ : ℕ → ℕ) : Type 0 where
  pub first : σ b.binder ≡ c
  pub each : All (Met g σ) (b ∷ m)
