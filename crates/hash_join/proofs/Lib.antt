pub mod Spread
pub mod Matched
pub mod Places
pub mod Runs
pub mod Stable
pub mod Starts
