pub mod Tuples
pub mod Gathered
pub mod Merged
pub mod Rows
