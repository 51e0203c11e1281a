pub mod Stores
pub mod Growing
pub mod Crossing
pub mod Flooding
pub mod Found
