pub mod Reduced
pub mod NewTriples
pub mod Coefficients
