pub mod Digits
pub mod General
pub mod Plain
pub mod Exponent
pub mod Numbers
pub mod Parts
