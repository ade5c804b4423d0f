pub mod Carries
pub mod Helds
pub mod Lending
pub mod Passes
pub mod Turns
