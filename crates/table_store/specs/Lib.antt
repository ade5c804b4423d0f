pub mod Files
pub mod Readings
pub mod Steps
pub mod Images
pub mod Databases
pub mod Entries
