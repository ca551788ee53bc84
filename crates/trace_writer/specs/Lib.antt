pub mod RunText
pub mod Lines
pub mod UnnotedLines
