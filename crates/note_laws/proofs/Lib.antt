pub mod CountLemmas
pub mod FewNotes
pub mod Examples
