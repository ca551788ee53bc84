pub mod JobsDue
pub mod AllSpans
pub mod Enough
pub mod ConstrainedSchedules
pub mod DemandDecides
mod Examples
