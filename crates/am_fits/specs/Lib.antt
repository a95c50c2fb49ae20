pub mod Facts
pub mod Indexes
pub mod Words
pub mod Runs
pub mod Tables
pub mod Told
pub mod Past
pub mod Shown
