pub mod Sums
pub mod Implied
pub mod Known
pub mod Ends
pub mod Slack
pub mod Kept
