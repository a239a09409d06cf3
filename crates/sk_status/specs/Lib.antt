pub mod Status
pub mod Notes
pub mod Written
