pub mod Lexemes
pub mod Values
pub mod Grammar
pub mod Factored
pub mod Tables
