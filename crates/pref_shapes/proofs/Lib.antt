pub mod IntervalLemmas
pub mod ShapeLemmas
