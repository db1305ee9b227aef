pub mod Conditions
pub mod Answers
pub mod Judged
pub mod Tests
