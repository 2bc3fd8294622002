-- Why the rows are the matches: from the compiler's steps to demands 2 and 3. Assumes nothing.
-- laws
pub mod Moves
pub mod Central
pub mod Choice
-- theorems
pub mod Theorem
pub mod Whole
pub mod Growth
pub mod MultiTheorem
pub mod MultiGrowth
pub mod MultiCovers
