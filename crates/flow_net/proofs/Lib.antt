pub mod BuilderLemmas
pub mod SumLemmas
pub mod Correspondences
pub mod Duality
pub mod WeightLemmas
pub mod PaddingLemmas
