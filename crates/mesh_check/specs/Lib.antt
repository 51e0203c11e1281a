pub mod Verdicts
pub mod Simplified
pub mod Far
pub mod Homes
