pub mod Walks
pub mod Predicates
pub mod Graphs
pub mod Tables
pub mod Components
pub mod Known
pub mod Judged
