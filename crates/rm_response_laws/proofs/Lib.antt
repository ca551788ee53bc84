pub mod Ceilings
pub mod BusyStretches
pub mod ResponseSearch
pub mod Firsts
pub mod ResponseMeaning
mod Examples
