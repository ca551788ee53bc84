pub mod Comparison
pub mod Replays
pub mod SameTexts
pub mod NotePuts
