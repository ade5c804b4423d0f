pub mod Overlays
pub mod PageBytes
