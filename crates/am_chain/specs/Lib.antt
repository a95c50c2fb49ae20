pub mod Passing
pub mod Laws
pub mod Sequences
pub mod Chains
pub mod Walks
pub mod Insertions
