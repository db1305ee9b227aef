pub mod Spelling
pub mod Walking
pub mod Rows
pub mod Parsing
pub mod Asprin
pub mod Listing
pub mod Getting
pub mod Examples
