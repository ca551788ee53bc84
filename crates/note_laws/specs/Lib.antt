pub mod InTime
pub mod LineCounts
