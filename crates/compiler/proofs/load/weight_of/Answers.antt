use Rattle.std.proofs.Common.{rules}
use Rattle.pattern.proofs.Children.{area}
use Rattle.compiler.proofs.Weights.{start, leaf_size, leaf_free, in_weights, fits, grow, done_size, done_free}
use Rattle.compiler.proofs.load.weight_of.Goals as goal

pub returns-in-Variable-clause-size : goal.returns-in-Variable-clause-size
returns-in-Variable-clause-size c = search (rules, leaf_size)

pub returns-in-Variable-clause-free : goal.returns-in-Variable-clause-free
returns-in-Variable-clause-free c = search (rules, leaf_free)

pub children-child-items-requires : goal.children-child-items-requires
children-child-items-requires c = search (rules, area)

pub loop-child-init : goal.loop-child-init
loop-child-init c = search (rules, start)

pub bounds-weights-child : goal.bounds-weights-child
bounds-weights-child c = search (rules, in_weights)

pub overflow_add-size : goal.overflow_add-size
overflow_add-size c = search (rules, fits)

pub loop-child-preserved : goal.loop-child-preserved
loop-child-preserved c = search (rules, grow)

pub returns-after-loop-child-clause-size : goal.returns-after-loop-child-clause-size
returns-after-loop-child-clause-size c = search (rules, done_size, c.in-Operator.ensures)

pub returns-after-loop-child-clause-free : goal.returns-after-loop-child-clause-free
returns-after-loop-child-clause-free c = done_free c.args.pattern.now c.args.i c.requires.inside _ _ _ c.loop-child.invariant c.in-Operator.ensures _ c.children-child-items.ensures c.loop-child-test.false
