pub mod MeshCodes
pub mod MeshForms
pub mod MeshRefused
