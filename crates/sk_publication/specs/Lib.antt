pub mod Publication
