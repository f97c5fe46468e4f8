pub mod Texts
pub mod Strings
pub mod Uncounted
pub mod MarkSteps
pub mod Sst
