pub mod Laying
pub mod LineLengths
pub mod Unique
pub mod Tables
pub mod Filling
