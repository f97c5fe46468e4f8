pub mod Decimals
pub mod Fractions
