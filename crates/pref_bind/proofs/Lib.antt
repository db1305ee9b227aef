pub mod NameLemmas
pub mod NamingLemmas
pub mod MemberLemmas
pub mod PlaceLemmas
pub mod BoundLemmas
pub mod CycleLemmas
