pub mod Allotments
pub mod Conditions
