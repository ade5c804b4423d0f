pub mod Fitting
pub mod Sample
pub mod FoldedRows
