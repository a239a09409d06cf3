pub mod Sample
pub mod Fields
