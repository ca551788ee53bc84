pub mod Ahead
pub mod SpreadEquations
