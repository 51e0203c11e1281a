pub mod Formats
pub mod Meshes
