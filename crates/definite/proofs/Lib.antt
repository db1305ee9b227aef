pub mod MarkLemmas
pub mod Orders
pub mod Steps
pub mod Drains
