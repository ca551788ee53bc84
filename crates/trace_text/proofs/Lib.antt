pub mod Unspaced
pub mod NoteLines
pub mod Lined
