pub mod MatchLemmas
pub mod PatternMatches
pub mod Grown
pub mod Evaluated
