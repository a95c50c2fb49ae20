pub mod Reads
pub mod Seen
pub mod Steps
pub mod Borrowed
pub mod Totals
pub mod Laws
