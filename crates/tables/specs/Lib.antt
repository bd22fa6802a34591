pub mod Numbering
pub mod Rows
pub mod Tables
pub mod Entries
