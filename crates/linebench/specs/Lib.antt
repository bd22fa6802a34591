pub mod Packed
