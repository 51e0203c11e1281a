pub mod Checking
pub mod Finishing
pub mod InputReplies
pub mod Moving
pub mod SecondFile
pub mod Texts
pub mod Simplifying
