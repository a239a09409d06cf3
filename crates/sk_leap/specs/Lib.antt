pub mod Leap
pub mod Kernel
pub mod UtcText
pub mod Reading
pub mod Meaning
pub mod Entries
pub mod Steps
pub mod Digits
