pub mod Vertices
pub mod Renumbered
