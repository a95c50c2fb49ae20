pub mod Contents
pub mod Fronts
pub mod Hashes
pub mod Judgement
pub mod Building
