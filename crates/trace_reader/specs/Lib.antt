pub mod Fields
pub mod Items
pub mod Heads
pub mod Traces
pub mod TraceFile
pub mod Sums
pub mod FaultLines
