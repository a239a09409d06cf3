pub mod Sentences
pub mod Headers
pub mod Causes
pub mod Cures
pub mod Subjects
pub mod Distances
pub mod Advice
pub mod Told
