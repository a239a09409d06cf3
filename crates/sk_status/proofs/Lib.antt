pub mod Behind
pub mod Amounts
