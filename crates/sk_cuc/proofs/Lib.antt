mod Rows
pub mod CodeLemmas
mod TimeLemmas
