pub mod Laws
pub mod ExactChecks
