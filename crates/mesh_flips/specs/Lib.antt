pub mod Turns
pub mod Quads
pub mod Flips
pub mod Clear
pub mod Fields
pub mod Laws
pub mod Orders
