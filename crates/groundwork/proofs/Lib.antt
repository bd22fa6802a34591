pub mod Alls
pub mod OwnSearch
pub mod Raised
pub mod PutRecords
pub mod Unique
