pub mod OneEnd
pub mod DoneText
pub mod TraceLimits
pub mod Traces
pub mod Examples
