pub mod Starts
pub mod Listed
pub mod Runs
pub mod Merged
pub mod Linked
pub mod Marked
pub mod Suspects
