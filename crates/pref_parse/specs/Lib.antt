pub mod Formulas
pub mod Operators
pub mod Mixed
pub mod Ranks
pub mod Elements
pub mod Statements
pub mod Readings
