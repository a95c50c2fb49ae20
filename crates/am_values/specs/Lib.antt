pub mod Columns
pub mod Cutting
pub mod Letters
pub mod Writing
