pub mod Tasks
pub mod DemandRows
pub mod TaskFile
pub mod FaultLines
pub mod Limits
pub mod Written
