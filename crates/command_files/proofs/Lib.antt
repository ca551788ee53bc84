pub mod FirstInOrder
pub mod GivenLoads
pub mod GivenAsFiles
pub mod FileLoads
pub mod RefusedSteps
pub mod Overloads
pub mod OverWorstShown
pub mod RmAnswers
