pub mod Real
pub mod Start
