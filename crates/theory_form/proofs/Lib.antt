pub mod AtomLemmas
pub mod ExtendLemmas
pub mod LookLemmas
pub mod NumberLemmas
pub mod OrderLemmas
pub mod TheoryLemmas
