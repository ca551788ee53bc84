pub mod AheadCounters
pub mod MovedTask
pub mod WalkLoop
