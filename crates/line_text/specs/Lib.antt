pub mod Numbers
pub mod Tokens
pub mod Refusals
pub mod Lists
pub mod Facets
