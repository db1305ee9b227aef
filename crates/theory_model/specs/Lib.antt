pub mod Truth
pub mod Loops
pub mod Models
pub mod Whole
pub mod Bodies
