pub mod Columns
pub mod Rows
pub mod Others
pub mod Counting
pub mod Writing
pub mod Chains
pub mod EachColumn
pub mod Noted
