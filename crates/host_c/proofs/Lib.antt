pub mod Called
pub mod Unique
