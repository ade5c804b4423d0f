mod IndexPages
mod Again
mod Cut
mod Encoded
pub mod Filed
pub mod Pages
mod Stored
pub mod Laying
pub mod DatabaseRead
pub mod Placed
mod EntryExamples
mod Fitting
pub mod Untold
