pub mod StaticSpeed
