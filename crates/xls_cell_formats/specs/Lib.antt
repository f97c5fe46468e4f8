pub mod Doubles
pub mod Numbers
pub mod Contents
pub mod Kept
pub mod CellCodes
pub mod Cells
