-- What each entry answers, as a function of its inputs. Assumes nothing.
use Rattle.std.specs.Prelude.{ℕ, List}
use Rattle.meaning.specs.declared.Answer.{Answer}
use Rattle.meaning.specs.Refusal.{refusal_of}

abbrev pub answer : ℕ → ℕ → Answer
answer n c = record { number = n; count = c }

-- a table's number
unfoldable pub check_table : List ℕ → Answer
check_table t = answer (refusal_of t) 0
