pub mod NumberedPuts
pub mod ProbePuts
pub mod Texts
pub mod MappedResults
