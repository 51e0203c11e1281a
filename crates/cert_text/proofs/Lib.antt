pub mod StampCodes
pub mod StampRefused
pub mod CertCodes
pub mod FieldForms
pub mod OneRefusal
pub mod CountLemmas
pub mod WholeLemmas
