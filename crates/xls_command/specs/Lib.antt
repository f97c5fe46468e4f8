pub mod Words
pub mod Summary
pub mod Counting
pub mod Outputs
pub mod Endings
pub mod Laws
pub mod Sample
pub mod SampleLaws
