-- When an assignment solves a compiler's state at a register file, and what the proof may use. Assumes nothing.
use Rattle.std.specs.Prelude.{ℕ, ◌<◌, ◌≡◌, List, map, length, Some}
use mathlib.Core.List.{Memᴰ as Mem}
use Rattle.meaning.specs.Lists.{NoDup, All}
use Rattle.meaning.specs.Graph.{Graph, lookup, ids}
use Rattle.meaning.specs.Pattern.{var, op, Pattern, free}
use Rattle.meaning.specs.Instance.{inst, all_some}
use Rattle.meaning.specs.Program.{Held, vars, at}
use Rattle.meaning.specs.Compiler.{Item, Root}
use Rattle.meaning.specs.Search.Order.{Stands}

-- what it may know of instances
pub record Means (g : Graph) (p : Pattern) : Type 0 where
  pub of_var : (σ : ℕ → ℕ) (n v : ℕ) → Stands p n (var v) → inst g p σ n ≡ Some (σ v)
  pub of_op : (σ : ℕ → ℕ) (n o : ℕ) (cs : List ℕ) → Stands p n (op o cs) → inst g p σ n ≡ all_some (map (inst g p σ) cs) (lookup g o)
  pub of_free : (σ τ : ℕ → ℕ) (n : ℕ) → ((v : ℕ) → Mem v (free p n) → σ v ≡ τ v) → inst g p σ n ≡ inst g p τ n

-- binder and root have one class as their instance
pub record Joined (g : Graph) (p : Pattern) (σ : ℕ → ℕ) (q : Root) : Type 0 where
  pub class : ℕ
  pub known : Mem class (ids g)
  pub binder : inst g p σ q.binder ≡ Some class
  pub top : inst g p σ q.top ≡ Some class

-- σ solves the state: roots to come, items at their registers, variables at theirs
pub record Solves (g : Graph) (p : Pattern) (R : List Root) (l : List Item) (B : List Held) (ρ : List ℕ) (σ : ℕ → ℕ) : Type 0 where
  pub roots : All (λ q. Joined g p σ q) R
  pub items : All (λ x. inst g p σ x.node ≡ Some (at ρ x.reg)) l
  pub binds : All (λ b. σ b.var ≡ at ρ b.reg) B

-- every register named is there, and no variable is bound twice
pub record Fit (l : List Item) (B : List Held) (k : ℕ) : Type 0 where
  pub items : All (λ x. x.reg.0 < k) l
  pub binds : All (λ b. b.reg.0 < k) B
  pub apart : NoDup (vars B)

-- a class of the graph
abbrev pub Known : Graph → ℕ → Type 0
Known g c = Mem c (ids g)

-- k registers, each a class
pub record File (g : Graph) (k : ℕ) (ρ : List ℕ) : Type 0 where
  pub long : length ρ ≡ k
  pub known : All (λ c. Mem c (ids g)) ρ
