pub mod ChainLemmas
pub mod MetLemmas
pub mod StateLemmas
pub mod Keeping
pub mod Listing
pub mod SetLemmas
