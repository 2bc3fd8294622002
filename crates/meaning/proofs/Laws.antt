-- Laws of the definitions, by what they speak of. Assumes nothing.
pub mod Keys
pub mod Blocks
pub mod Rules
pub mod Numbering
pub mod Lookup
pub mod PatternRules
pub mod Loops
pub mod Chains
pub mod Ands
pub mod Slices
pub mod PatternNumbering
pub mod Tables
pub mod Patterns
pub mod Sizes
