pub mod Text
pub mod Calls
pub mod Answers
pub mod Input
pub mod Reading
pub mod Steps
