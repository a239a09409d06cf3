pub mod Runs
pub mod MonthNames
pub mod Dates
pub mod Clocks
pub mod Texts
