pub mod Indices
pub mod Listings
pub mod Amounts
pub mod Ordered
pub mod Members
pub mod SightCosts
pub mod ListingAgreements
