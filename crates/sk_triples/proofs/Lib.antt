pub mod Decimals
pub mod Threes
pub mod ReadRows
pub mod KernelOf
pub mod Covering
pub mod Wide
pub mod Falls
pub mod RowTimes
