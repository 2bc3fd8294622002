-- Words that pass the check are sound; what the searches find: class records, index entries, and the nodes of a shape in a run.
pub mod Opens
pub mod Searches
pub mod Classes
pub mod Keys
pub mod Shapes
pub mod Blocks
