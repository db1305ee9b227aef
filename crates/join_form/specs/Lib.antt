pub mod Patterns
pub mod Steps
pub mod Ready
pub mod Bindings
