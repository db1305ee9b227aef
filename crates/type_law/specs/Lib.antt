pub mod Parts
pub mod Compositions
pub mod Lexico
pub mod Covers
pub mod Orders
pub mod Takes
