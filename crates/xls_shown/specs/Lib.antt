pub mod Shown
pub mod Shapes
