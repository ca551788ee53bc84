pub mod Draws
pub mod Workload
