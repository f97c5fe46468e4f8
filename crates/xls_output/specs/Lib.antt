pub mod Causes
pub mod Written
pub mod SinkState
pub mod Gathering
pub mod Output
pub mod Added
pub mod Each
