mod Rows
pub mod CodeLemmas
