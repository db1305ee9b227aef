pub mod Calling
pub mod Naming
pub mod Printing
pub mod Running
pub mod Showing
pub mod Stopping
