pub mod GivenDeadlines
pub mod Examples
