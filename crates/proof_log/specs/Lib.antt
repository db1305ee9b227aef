pub mod Added
pub mod Causes
pub mod Steps
pub mod States
pub mod Valid
pub mod After
pub mod Logs
pub mod Working
