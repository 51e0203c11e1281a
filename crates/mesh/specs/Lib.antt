pub mod Meshes
pub mod Marks
pub mod Laws
