pub mod TraceLines
pub mod TraceText
