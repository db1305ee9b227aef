pub mod Escapes
pub mod Joined
pub mod KindTexts
pub mod Pushes
pub mod Written
