pub mod Comparison
mod Copies
mod Growing
pub mod IndexRows
pub mod IndexUse
mod Insertion
mod Multiples
pub mod Overwritten
mod NodeWrites
mod Placing
mod Rotation
mod Shape
mod Soundness
mod TreeNodes
mod TreeRows
