pub mod Spelled
pub mod Options
pub mod Values
pub mod Asked
pub mod Reads
pub mod Commands
pub mod Gives
