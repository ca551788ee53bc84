pub mod Rows
pub mod EdfCyclePublished
pub mod CycleLaws
