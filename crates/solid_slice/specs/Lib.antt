pub mod Cuts
pub mod Loops
pub mod Slices
pub mod Texts
pub mod Crossings
pub mod Walks
pub mod Refusals
pub mod Laws
