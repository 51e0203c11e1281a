pub mod Order
pub mod Finished
pub mod Steps
