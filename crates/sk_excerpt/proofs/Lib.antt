pub mod Covers
pub mod Room
pub mod Variables
pub mod Rows
pub mod SameClock
pub mod Times
pub mod Law
