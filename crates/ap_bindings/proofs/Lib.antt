pub mod FirstLemmas
pub mod TakeLemmas
mod NameLemmas
mod BindingLemmas
mod UnboundLemmas
pub mod SourceLemmas
