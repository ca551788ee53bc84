pub mod Constrained
pub mod ProcessorDemand
pub mod MetOrMissed
