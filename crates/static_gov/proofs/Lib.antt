pub mod StaticSpeed
pub mod Examples
