pub mod Commands
pub mod Links
pub mod Parts
pub mod Paths
pub mod Prefixes
pub mod Quotes
pub mod Tables
