pub mod TerminalLemmas
pub mod ListingLemmas
pub mod LimitLemmas
pub mod ConstructLemmas
pub mod OutcomeLemmas
pub mod StopLemmas
pub mod QuoteLemmas
pub mod TokenizingLemmas
