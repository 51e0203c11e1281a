pub mod Join
pub mod Lines
pub mod Reading
