pub mod Graphs
pub mod Reaches
pub mod Numbers
pub mod Clocks
pub mod Whole
pub mod Walks
pub mod Ranks
