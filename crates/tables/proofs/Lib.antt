pub mod Found
pub mod Unique
