pub mod Reads
pub mod Operands
pub mod Terms
pub mod Literals
pub mod Strings
