pub mod Citations
pub mod Cited
pub mod Citing
pub mod Laws
pub mod Steps
pub mod Views
