pub mod Numbers
pub mod States
pub mod Folds
pub mod Optima
pub mod Permitted
