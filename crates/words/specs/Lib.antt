pub mod Table
pub mod FaultLines
pub mod Commands
pub mod Reading
pub mod Shown
