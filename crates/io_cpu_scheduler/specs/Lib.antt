pub mod Decisions
pub mod Degrees
pub mod Limits
pub mod Loads
pub mod Sensible
pub mod Steps
