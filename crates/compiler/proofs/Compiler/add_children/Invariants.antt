use Rattle.std.proofs.Common.{◌≡◌, ◌-◌, take}
use Rattle.meaning.specs.PatternWords.{degree_at, children_of}
use Rattle.compiler.specs.Local.{view, Room, add_all}
use Rattle.compiler.proofs.Compiler.add_children.Given as goal

abbrev pub invariant-loop-x : goal.invariant-loop-x
invariant-loop-x l = (view l.self ≡ add_all l.pattern.parts.words.now l.place l.r.0 (take l.x (children_of l.pattern.parts.words.now l.node)) (view l.initial.self)) × Room l.self (degree_at l.pattern.parts.words.now l.node - l.x)
