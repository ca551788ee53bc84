mod TopCall
mod Words
pub mod EndedWords
pub mod NumberSteps
pub mod DeadlineSteps
