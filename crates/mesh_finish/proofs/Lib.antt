pub mod Rewritten
pub mod Composed
