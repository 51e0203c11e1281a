pub mod Scanners
pub mod Words
pub mod Rows
