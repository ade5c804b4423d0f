pub mod Laid
pub mod Scans
pub mod Turns
