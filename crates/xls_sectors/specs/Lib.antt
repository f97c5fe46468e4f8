pub mod Reading
pub mod Header
pub mod Chains
pub mod Streams
pub mod Tables
pub mod Laws
pub mod Errors
