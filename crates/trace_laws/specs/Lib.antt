pub mod DoneLines
pub mod RunTraces
