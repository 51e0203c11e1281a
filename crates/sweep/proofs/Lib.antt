pub mod Scenes
pub mod Surfaces
pub mod Raising
pub mod FreshBuilds
pub mod Handings
