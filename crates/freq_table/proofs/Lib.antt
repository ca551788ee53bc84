pub mod Entries
pub mod Points
pub mod Examples
pub mod Chosen
