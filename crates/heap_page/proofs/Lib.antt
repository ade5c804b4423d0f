pub mod Calm
pub mod Parts
mod Standing
mod Written
mod Read
mod Pushed
mod Views
pub mod Striping
pub mod Cut
mod Counted
mod Itemised
pub mod Found
pub mod Drives
mod Fillings
