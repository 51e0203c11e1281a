pub mod Covers
pub mod Parts
