pub mod Beams
pub mod Planes
pub mod Ways
