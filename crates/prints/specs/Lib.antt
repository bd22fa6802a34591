pub mod Printing
pub mod Texts
pub mod Reading
