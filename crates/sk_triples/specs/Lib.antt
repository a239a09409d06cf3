pub mod Kernel
pub mod Coefficients
pub mod Values
pub mod Reading
