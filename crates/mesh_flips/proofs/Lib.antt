pub mod Sides
pub mod Kept
pub mod Chains
pub mod Off
pub mod Crossings
pub mod Singles
pub mod Turning
pub mod Ordered
