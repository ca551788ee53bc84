pub mod WrittenLines
pub mod SumLines
pub mod MostLines
