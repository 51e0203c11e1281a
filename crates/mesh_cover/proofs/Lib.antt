pub mod Convex
pub mod Measured
pub mod Quarters
