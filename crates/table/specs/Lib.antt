-- A table's soundness has one proof; a class's nodes as a run, shapes of nodes, and what lookup answers.
pub mod Once
pub mod Spans
pub mod Shapes
pub mod Walks
pub mod Lookups
