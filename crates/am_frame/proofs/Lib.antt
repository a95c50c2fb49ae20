pub mod Parts
pub mod OneChunk
pub mod FaultLaws
pub mod HeadLaws
pub mod Unique
pub mod Verdict
pub mod ReadLaws
