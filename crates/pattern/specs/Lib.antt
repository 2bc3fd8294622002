pub mod Laid
pub mod Kinds
pub mod Counts
pub mod Opened
