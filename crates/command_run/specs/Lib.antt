pub mod Answers
pub mod Lines
pub mod Outcome
pub mod Replies
pub mod Status
pub mod Steps
pub mod Words
