pub mod FixedByNotes
pub mod Exact
pub mod Texts
pub mod SameTexts
pub mod ComparedNotes
pub mod Examples
pub mod TracePuts
