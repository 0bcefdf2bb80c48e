pub mod Arguments
pub mod Bytes
pub mod Graphs
pub mod Source
