-- A node and its children, for whoever walks a pattern.
pub mod Children
