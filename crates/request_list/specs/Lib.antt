pub mod Requests
pub mod RequestFile
pub mod FaultLines
pub mod RequestText
