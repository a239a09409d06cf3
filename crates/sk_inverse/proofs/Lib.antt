pub mod Times
pub mod Lines
pub mod Found
pub mod Exact
pub mod Reached
