pub mod Answers
pub mod Bytes
pub mod Pages
pub mod Runs
pub mod Writers
