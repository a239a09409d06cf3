pub mod Report
pub mod Line
pub mod Marks
pub mod Ends
