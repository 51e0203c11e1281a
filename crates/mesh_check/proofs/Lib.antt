pub mod Beyond
pub mod Counted
pub mod Measured
pub mod Searched
