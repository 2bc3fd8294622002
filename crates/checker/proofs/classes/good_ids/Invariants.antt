use Rattle.std.proofs.Common.{◌≡◌, ◌≤◌}
use Rattle.meaning.specs.Refusal.{canonicals, ids_to}
use Rattle.checker.proofs.classes.good_ids.Given as goal

abbrev pub invariant-loop-x : goal.invariant-loop-x
invariant-loop-x l = record {
  end : l.records.end ≡ l.t.layout.c;
  within : l.records.start ≤ l.t.layout.c;
  so_far : ids_to l.t.words.now l.t.layout l.records.start ≡ canonicals l.t.words.now l.t.layout l.x;
}
