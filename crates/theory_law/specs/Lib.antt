pub mod Cuts
pub mod Appending
pub mod Standing
pub mod Growth
pub mod Excluding
