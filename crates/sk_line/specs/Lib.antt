pub mod Triple
pub mod Line
