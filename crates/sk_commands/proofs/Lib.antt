pub mod Few
pub mod Timed
