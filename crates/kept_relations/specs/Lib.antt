pub mod Fitting
pub mod KeptColumns
pub mod KeptNames
