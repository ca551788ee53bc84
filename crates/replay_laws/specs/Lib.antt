pub mod FixedDemands
pub mod OwnList
