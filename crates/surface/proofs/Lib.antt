pub mod Renumbered
pub mod Listed
pub mod ListedCut
pub mod ListedLabels
pub mod CutList
pub mod StoreCut
pub mod ClosedCut
