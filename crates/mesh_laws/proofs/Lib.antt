pub mod Homes
pub mod Kept
pub mod Digests
pub mod GivenOptions
pub mod Files
pub mod FinishedRuns
pub mod OneAnswer
