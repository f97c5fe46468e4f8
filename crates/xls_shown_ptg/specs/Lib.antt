pub mod Reading
pub mod FaultText
pub mod Rows
pub mod ShownTokens
pub mod Counts
pub mod Extra
pub mod Arrays
