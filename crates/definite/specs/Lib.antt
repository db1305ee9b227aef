pub mod Rules
pub mod Searches
