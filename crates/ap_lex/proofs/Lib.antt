mod Examples
pub mod FrontLemmas
pub mod NumberLemmas
pub mod WordLemmas
pub mod StringLemmas
pub mod SignLemmas
pub mod StandsLemmas
pub mod FoundLemmas
pub mod SoundLemmas
pub mod ReadingLemmas
pub mod BoundaryLemmas
