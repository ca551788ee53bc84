pub mod Calendars
pub mod DemandWalk
pub mod LowestEntry
pub mod Examples
