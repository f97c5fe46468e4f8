pub mod Files
pub mod Paths
pub mod Reasons
pub mod Reads
