pub mod Fields
pub mod Order
pub mod Cells
pub mod Places
pub mod Held
pub mod Runs
pub mod Tables
pub mod Walking
