pub mod SetReading
