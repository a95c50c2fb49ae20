mod Same
mod Keeping
pub mod Looking
mod Texts
pub mod LastPuts
pub mod Staying
pub mod Going
