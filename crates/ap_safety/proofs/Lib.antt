pub mod FaultLemmas
mod AnswerLemmas
