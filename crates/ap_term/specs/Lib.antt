pub mod Value
pub mod Difference
pub mod Order
pub mod Outline
pub mod Arithmetic
pub mod Printed
pub mod Table
pub mod Built
