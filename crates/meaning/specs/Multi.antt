-- Multipatterns: one list of nodes, each binder a variable node before its pattern's. Assumes nothing.
use Rattle.std.specs.Prelude.{ℕ, suc, ◌+◌, length}
use mathlib.Core.List.{List, [], ◌∷◌, ◌++◌, map, flat_map}
use Rattle.meaning.specs.Graph.{Graph, ids}
use Rattle.meaning.specs.Pattern.{PNode, var, op, Pattern, Bound}
use Rattle.meaning.specs.Compiler.{Root, Prog, compile_roots, ahead}
use Rattle.meaning.specs.Matching.{run_of}

unfoldable pub shift_node : ℕ → PNode → PNode
shift_node a (var v) = var v
shift_node a (op o cs) = op o (map (λ c. a + c) cs)

-- the nodes of the patterns, from number a on
unfoldable pub flat : ℕ → List Bound → Pattern
flat a [] = []
flat a (b ∷ m) = var b.binder ∷ (map (shift_node (suc a)) b.pat ++ flat (suc a + length b.pat) m)

-- their binders and roots
unfoldable pub tops : ℕ → List Bound → List Root
tops a [] = []
tops a (b ∷ m) = record { binder = a; top = a + length b.pat } ∷ tops (suc a + length b.pat) m

unfoldable pub compile_many : List Bound → Prog
compile_many m = compile_roots (ahead (flat 0 m)) (flat 0 m) (tops 0 m)

-- the rows of class c
unfoldable pub many_matches : Graph → List Bound → ℕ → List (List ℕ)
many_matches g m c = run_of g (flat 0 m) (compile_many m) c

unfoldable pub many_matches_all : Graph → List Bound → List (List ℕ)
many_matches_all g m = let π = compile_many m in flat_map (λ c. map (λ w. c ∷ w) (run_of g (flat 0 m) π c)) (ids g)
