mod Worked
pub mod Records
pub mod FieldLemmas
pub mod Times
pub mod Progress
pub mod Judging
pub mod Slashes
pub mod Laws
pub mod CodeWords
pub mod TimeWords
pub mod ObservedTimes
pub mod Files
pub mod Ascii
pub mod Ticks
