pub mod Overs
pub mod Growth
pub mod Leaves
pub mod Separations
pub mod Excluding
pub mod Apart
