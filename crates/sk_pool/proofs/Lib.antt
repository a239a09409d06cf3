pub mod Names
pub mod Mixing
pub mod Finding
pub mod Changed
pub mod Growing
pub mod Judged
pub mod LookUps
