pub mod Still
pub mod Flags
pub mod Pairs
pub mod Passes
pub mod Shapes
pub mod Scales
pub mod GridScales
