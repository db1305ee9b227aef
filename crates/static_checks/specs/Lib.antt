pub mod Programs
pub mod Faults
pub mod Conditions
pub mod Judgements
pub mod Told
