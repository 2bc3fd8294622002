-- Laws of the definitions, by what they speak of. Assumes nothing.
pub mod Runs
pub mod Ascending
pub mod Bisection
pub mod Joins
pub mod Pigeons
pub mod Masks
pub mod Ends
pub mod Built
pub mod Instances
pub mod Sums
