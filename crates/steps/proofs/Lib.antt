pub mod FormSizes
pub mod VolumeStanding
pub mod VolumeEnds
pub mod VolumeRun
pub mod VolumeLoop
pub mod VolumeLoopTurns
