pub mod Changes
pub mod FileList
pub mod Handed
pub mod Reading
