pub mod DraftLemmas
pub mod StandLemmas
pub mod PlaceLemmas
pub mod MapLemmas
pub mod TermLemmas
pub mod ChainLemmas
