pub mod AheadLaws
pub mod SpreadEquations
pub mod AheadPublished
pub mod Examples
