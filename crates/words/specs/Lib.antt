-- A key as a node, and what a search by halving answers.
pub mod Keys
pub mod Stops
