pub mod WellFormed
pub mod SortedRows
pub mod Walks
