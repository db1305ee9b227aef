pub mod ReductLemmas
pub mod SetLemmas
