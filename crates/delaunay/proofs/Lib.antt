pub mod Whole
pub mod Inserted
pub mod Built
pub mod Numbered
