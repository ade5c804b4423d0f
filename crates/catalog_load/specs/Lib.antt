pub mod Tables
pub mod Records
pub mod Catalogs
pub mod Machine
pub mod Checks
pub mod Readings
pub mod Limits
