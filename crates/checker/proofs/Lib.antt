pub mod Ids
pub mod Ranges
pub mod Members
pub mod Entries
pub mod Areas
pub mod Whole
