mod Different
pub mod Parts
pub mod SimpleGraph
pub mod Verdict
