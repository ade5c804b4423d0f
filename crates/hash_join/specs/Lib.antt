pub mod Table
pub mod Hash
pub mod Found
pub mod Making
