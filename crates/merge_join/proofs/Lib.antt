pub mod Combined
pub mod InOrder
pub mod Matches
pub mod Merged
pub mod Ordered
pub mod Starts
