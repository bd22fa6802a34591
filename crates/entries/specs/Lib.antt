pub mod Names
pub mod Parts
pub mod Entering
pub mod Forms
pub mod Shapes
pub mod Acts
