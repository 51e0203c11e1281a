pub mod Activity
pub mod Counts
pub mod Files
pub mod Handed
pub mod Memory
pub mod State
pub mod Whole
