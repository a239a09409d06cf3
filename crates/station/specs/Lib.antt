pub mod Start
pub mod Asking
