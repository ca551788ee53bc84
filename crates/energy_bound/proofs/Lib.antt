pub mod Lines
pub mod Pairs
pub mod Corners
pub mod Costs
pub mod LeastTest
pub mod Examples
