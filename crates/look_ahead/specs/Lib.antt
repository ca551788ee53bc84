pub mod Counters
pub mod Walk
