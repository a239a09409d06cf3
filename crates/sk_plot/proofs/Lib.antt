pub mod Rounded
pub mod Joined
pub mod Heights
