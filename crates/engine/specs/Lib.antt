pub mod Lone
pub mod Remaining
