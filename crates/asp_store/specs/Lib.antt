pub mod Plain
pub mod Store
pub mod Watch
