pub mod Lists
pub mod Names
pub mod Keeping
pub mod SublistsLemmas
pub mod Within
pub mod AnswerLists
pub mod Best
pub mod Listing
