pub mod Takings
pub mod JobEnds
pub mod Steps
pub mod RequestJobs
pub mod PolledRun
pub mod Examples
pub mod ServerRuns
