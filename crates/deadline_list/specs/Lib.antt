pub mod Deadlines
pub mod DeadlineFile
pub mod FaultLines
pub mod DeadlineTicks
