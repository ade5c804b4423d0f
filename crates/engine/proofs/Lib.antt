pub mod Remaining
pub mod Seated
