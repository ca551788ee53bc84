pub mod ServerJobs
pub mod Outcomes
pub mod Bound
pub mod Polled
pub mod EachOutcome
pub mod Refusals
pub mod Walks
