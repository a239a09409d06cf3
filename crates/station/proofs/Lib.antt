pub mod AskedFiles
pub mod Sizes
pub mod Joined
pub mod Refusals
pub mod Endings
