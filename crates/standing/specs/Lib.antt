pub mod SoFar
pub mod Laid
pub mod Standing
pub mod FileStanding
pub mod Reading
pub mod LineDone
pub mod Kept
