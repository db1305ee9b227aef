pub mod Drafts
pub mod Stands
pub mod Terms
pub mod Chains
pub mod Compiled
