pub mod Status
pub mod StatusLines
pub mod ProbeLines
pub mod Noted
pub mod Refused
pub mod Steps
