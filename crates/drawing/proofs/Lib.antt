pub mod FileCloses
pub mod FileActs
pub mod TopSteps
pub mod DrawingSteps
pub mod SymbolSteps
pub mod Unique
