pub mod Laws
pub mod Tracking
pub mod Views
pub mod Waiting
