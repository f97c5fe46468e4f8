pub mod Numbers
pub mod Doubles
pub mod Columns
pub mod Escapes
pub mod Growth
pub mod Characters
