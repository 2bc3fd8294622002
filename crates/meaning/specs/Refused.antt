-- document 01's number of each reason to refuse, and of what checking gave. Assumes nothing.
use Rattle.std.specs.Prelude.{ℕ, Result, Ok, Err}
use Rattle.meaning.specs.declared.Refusal.{Refusal}
use Rattle.meaning.specs.declared.Refusal.TheVariants.{TableShape, TableLimits, FindList, ClassRecords, NodeRecords, NodeIndex, PatternShape, PatternLimits, PatternNodes}

abbrev pub number : Refusal → ℕ
number TableShape = 1
number TableLimits = 2
number FindList = 3
number ClassRecords = 4
number NodeRecords = 5
number NodeIndex = 6
number PatternShape = 7
number PatternLimits = 8
number PatternNodes = 9

-- 0 where nothing is refused
abbrev pub number_of : {A : Type 0} → Result A Refusal → ℕ
number_of (Ok a) = 0
number_of (Err e) = number e
