pub mod Observation
pub mod Words
pub mod File
pub mod Reading
