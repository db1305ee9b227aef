pub mod AtomSets
pub mod Reduct
pub mod AnswerSets
pub mod Derivations
pub mod Reductions
pub mod Supports
pub mod Looks
