pub mod Back
pub mod Planes
pub mod Queues
pub mod Sides
pub mod Steps
