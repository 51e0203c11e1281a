pub mod DigitLemmas
mod ScaleLemmas
pub mod PrintedLemmas
