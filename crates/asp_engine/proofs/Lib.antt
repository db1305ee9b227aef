pub mod HintNumbers
pub mod KeyLemmas
pub mod LateLemmas
pub mod LevelLemmas
pub mod MoveLemmas
pub mod NewLemmas
pub mod RoundLemmas
