pub mod SetLemmas
pub mod ListLemmas
pub mod LiteralLemmas
