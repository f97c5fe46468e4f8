pub mod Decimals
pub mod Fractions
pub mod Texts
pub mod Counted
pub mod Moments
pub mod Laws
