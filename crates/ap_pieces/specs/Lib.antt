pub mod Variables
pub mod Placed
pub mod Pieces
pub mod Bound
