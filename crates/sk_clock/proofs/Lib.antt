mod Rows
pub mod PartitionLemmas
pub mod FieldLemmas
pub mod NumberLemmas
pub mod KernelLemmas
pub mod ScanLemmas
pub mod SpelledLemmas
pub mod TickLemmas
pub mod RadixLemmas
pub mod CanonicalLemmas
pub mod ReadBackLemmas
