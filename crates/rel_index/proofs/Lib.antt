pub mod Steps
pub mod KeyOrder
pub mod Between
pub mod Descent
pub mod RowLemmas
