pub mod Homes
pub mod Cuts
pub mod Scripts
pub mod Premises
pub mod Opened
pub mod Laws
pub mod Folds
pub mod FoldedScripts
