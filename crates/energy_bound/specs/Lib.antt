pub mod Choices
pub mod Corners
pub mod Certificates
pub mod FirstPairs
pub mod Bounds
pub mod Schedules
