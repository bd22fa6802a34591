pub mod LineEnds
pub mod VolumeNames
pub mod VolumePlaces
pub mod LineForms
pub mod LineLook
pub mod LineFlaw
