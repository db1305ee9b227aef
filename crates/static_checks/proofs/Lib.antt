pub mod OrderLemmas
pub mod FaultLemmas
pub mod JudgeLemmas
