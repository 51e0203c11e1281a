pub mod Spans
pub mod Hulls
pub mod Trees
pub mod Shared
pub mod Gaps
pub mod Settled
