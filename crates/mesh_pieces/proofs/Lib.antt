pub mod Marked
pub mod Across
pub mod Sizes
pub mod Boxed
pub mod Edges
pub mod Numbers
pub mod Copied
