pub mod Lawful
pub mod Systems
