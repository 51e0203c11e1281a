pub mod Tokens
pub mod Texts
pub mod Binaries
pub mod Rests
pub mod Bodies
pub mod Readers
pub mod Grammar
pub mod Items
