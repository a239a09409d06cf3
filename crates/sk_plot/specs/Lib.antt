pub mod Escape
pub mod Scale
pub mod Place
pub mod Point
pub mod Picture
