pub mod Fields
pub mod Pages
pub mod Pushes
pub mod Maps
pub mod Blocks
pub mod Items
pub mod Stores
pub mod Sources
