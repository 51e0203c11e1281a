pub mod Received
pub mod Texts
