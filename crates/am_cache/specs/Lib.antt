pub mod Views
pub mod Kept
pub mod Resting
pub mod Deciding
pub mod Uses
