pub mod Joined
pub mod Ranges
pub mod RowLines
pub mod Lasts
pub mod MarkLemmas
pub mod TextLines
pub mod OneLine
