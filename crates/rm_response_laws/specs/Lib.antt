pub mod Responses
pub mod HeldWork
