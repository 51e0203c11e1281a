pub mod Options
pub mod Tails
pub mod Simplifying
pub mod Texts
pub mod Refusals
pub mod Laws
