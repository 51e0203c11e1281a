pub mod Reading
pub mod Located
pub mod Unique
pub mod Along
