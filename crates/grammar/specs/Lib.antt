pub mod Form
pub mod Fault
pub mod Tables
pub mod Takes
pub mod Image
pub mod Readable
