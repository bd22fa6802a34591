pub mod Going
pub mod Shown
pub mod Commas
pub mod Whole
