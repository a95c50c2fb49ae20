pub mod Joined
pub mod FrontLaws
pub mod ContentsLaws
pub mod Parsing
pub mod InPlace
pub mod OwnHashes
pub mod OneByOne
