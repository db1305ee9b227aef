pub mod Sets
pub mod Programs
pub mod Ranges
pub mod Truth
pub mod Reduct
pub mod AnswerSets
pub mod Acyclic
pub mod Obedience
