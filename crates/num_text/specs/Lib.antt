pub mod WholeNumbers
pub mod Decimals
pub mod Steps
pub mod Separators
pub mod Views
