pub mod ScanRows
pub mod Shown
pub mod Views
