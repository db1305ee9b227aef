pub mod Intervals
pub mod Forms
pub mod Shapes
pub mod Answers
