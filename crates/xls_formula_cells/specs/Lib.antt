pub mod Formulas
pub mod Contents
pub mod Held
