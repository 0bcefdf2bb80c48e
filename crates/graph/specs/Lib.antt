pub mod Parts
pub mod Verdicts
pub mod Triple
pub mod Triples
pub mod SimpleGraph
