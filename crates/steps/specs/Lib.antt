pub mod VolumeLines
