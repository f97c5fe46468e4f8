pub mod Operators
pub mod Cells
pub mod Constants
pub mod Answers
