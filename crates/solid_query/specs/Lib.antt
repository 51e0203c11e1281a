pub mod Queries
pub mod Labels
pub mod Solids
pub mod Laws
