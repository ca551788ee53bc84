pub mod MadeTasks
pub mod Examples
