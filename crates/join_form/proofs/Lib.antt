pub mod PatternLemmas
pub mod StepLemmas
