pub mod Version
pub mod ErrorText
pub mod Reading
pub mod SourceState
pub mod Bounded
pub mod Feed
pub mod Laws
