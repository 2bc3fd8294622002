pub mod Orders
pub mod Weights
pub mod Adding
pub mod Picking
