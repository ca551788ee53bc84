pub mod Tables
pub mod MachineFile
pub mod FaultLines
pub mod Limits
