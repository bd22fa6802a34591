pub mod Bytes
pub mod Readings
pub mod Pieces
pub mod Drawing
pub mod Texts
pub mod Writing
pub mod NoRoom
