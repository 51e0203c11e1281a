pub mod Entries
pub mod Swept
pub mod FreshBuilds
