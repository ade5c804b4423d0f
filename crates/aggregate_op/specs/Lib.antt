pub mod Partials
pub mod Joined
pub mod Stored
pub mod Runs
pub mod Sides
pub mod FoldMeaning
pub mod Closing
