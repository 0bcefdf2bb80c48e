pub mod Part
pub mod Node
pub mod RowTree
pub mod RowTreeSteps
pub mod RowIndex
pub mod Written
