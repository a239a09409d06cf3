pub mod Number
pub mod Reading
pub mod Significant
pub mod Power
pub mod Quotient
pub mod Fixed
