pub mod Witnessed
pub mod Known
pub mod Tidied
pub mod Judged
