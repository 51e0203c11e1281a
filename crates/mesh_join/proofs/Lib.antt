pub mod AllPlaces
pub mod Flat
pub mod Joining
pub mod Found
pub mod PlaceOrder
pub mod Rising
pub mod Theorems
pub mod Tiles
