pub mod Files
pub mod Growth
pub mod Items
pub mod Scans
