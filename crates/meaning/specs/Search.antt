-- Why the rows are the matches: from the compiler's steps to demands 2 and 3. Assumes nothing.
-- statements
pub mod Listing
pub mod Order
pub mod Solve
-- laws
pub mod Rowlaws
pub mod Fits
pub mod Bindings
pub mod Measure
pub mod Steps
pub mod Compiled
pub mod Running
pub mod Bounds
pub mod Counting
pub mod Written
pub mod Window
-- theorems
pub mod Covers
pub mod Paths
