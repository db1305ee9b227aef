pub mod Depths
pub mod Stands
pub mod Programs
pub mod Inside
