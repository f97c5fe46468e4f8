pub mod Fractions
pub mod Rounding
pub mod FormulaNumbers
pub mod Limbs
