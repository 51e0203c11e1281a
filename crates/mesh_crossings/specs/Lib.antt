pub mod Crossings
pub mod Tested
pub mod Counts
