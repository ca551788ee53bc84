pub mod Sums
pub mod Searches
pub mod Multiples
pub mod Ceilings
pub mod Least
pub mod Counts
pub mod Tables
