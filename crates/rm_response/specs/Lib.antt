pub mod Denials
pub mod Known
pub mod Supplies
pub mod Loads
pub mod Fits
pub mod Earlier
