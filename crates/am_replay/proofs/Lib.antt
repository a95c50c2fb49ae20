pub mod Stepping
pub mod Bounds
pub mod Agreeing
pub mod Strictly
pub mod InOrder
