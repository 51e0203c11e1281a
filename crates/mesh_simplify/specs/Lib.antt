pub mod Simplified
pub mod Keys
pub mod Laws
pub mod Tested
