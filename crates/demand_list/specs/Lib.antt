pub mod Demands
pub mod Kept
pub mod DemandFile
pub mod FaultLines
