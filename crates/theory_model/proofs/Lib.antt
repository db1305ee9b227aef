pub mod HintLemmas
pub mod GrowthLemmas
pub mod PlaceLemmas
