use Rattle.meaning.proofs.Laws.Tables.{record_within}
use Rattle.std.proofs.Common.{arith}
use Rattle.words.proofs.areas.Areas.record_word.Goals as goal

pub overflow_mul-j : goal.overflow_mul-j
overflow_mul-j c = let h = record_within _ _ c.args.self.now.layout.width c.requires.0 in omega arith

pub overflow_add-self : goal.overflow_add-self
overflow_add-self c = let h = record_within _ _ c.args.self.now.layout.width c.requires.0 in omega arith

pub overflow_add-self-2 : goal.overflow_add-self-2
overflow_add-self-2 c = let h = record_within _ _ c.args.self.now.layout.width c.requires.0 in omega arith

pub at-requires : goal.at-requires
at-requires c = let h = record_within _ _ c.args.self.now.layout.width c.requires.0 in omega arith
