pub mod Chains
pub mod OnActs
pub mod RecordLengths
pub mod Rows
pub mod Runs
