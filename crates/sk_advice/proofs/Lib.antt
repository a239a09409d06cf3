pub mod Printable
pub mod Order
pub mod Given
