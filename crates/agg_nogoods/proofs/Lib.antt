pub mod SumLemmas
pub mod ClauseLemmas
pub mod EndLemmas
pub mod Search
pub mod EndSteps
pub mod RuleLemmas
pub mod LookLemmas
pub mod FoundLemmas
pub mod NoneLemmas
mod KeptLemmas
mod AnswerLemmas
