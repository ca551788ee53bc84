pub mod Cycle
pub mod Conditions
