pub mod Exits
pub mod Fronts
pub mod Images
pub mod Paths
pub mod Planes
pub mod Steps
