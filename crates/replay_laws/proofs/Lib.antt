pub mod SameNotes
pub mod BlindDemands
pub mod SameLists
pub mod OwnDemands
pub mod Examples
