pub mod Drivings
pub mod Handed
