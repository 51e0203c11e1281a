pub mod Distinct
pub mod Indices
