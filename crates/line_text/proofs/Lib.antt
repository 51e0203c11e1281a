pub mod Kept
pub mod Codes
pub mod Numerals
pub mod SignedTokens
pub mod Rows
pub mod Fronts
pub mod Parts
pub mod FacetForms
