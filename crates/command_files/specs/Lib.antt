pub mod Meanings
pub mod GivenFiles
pub mod Files
pub mod Loads
pub mod Admissions
