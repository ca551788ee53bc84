pub mod MarkUnits
pub mod KeptCounters
