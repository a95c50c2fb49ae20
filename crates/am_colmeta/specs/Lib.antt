pub mod Metadata
pub mod Actors
pub mod Judgement
pub mod Reading
pub mod Writing
pub mod Even
