pub mod OptionCodes
pub mod OptionForms
pub mod MadeCodes
pub mod FileCodes
pub mod FileRefused
