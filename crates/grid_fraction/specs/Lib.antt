pub mod Numbers
pub mod Fraction
