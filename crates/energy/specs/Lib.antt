pub mod Segments
pub mod Books
