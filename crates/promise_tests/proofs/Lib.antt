pub mod Said
pub mod Statuses
