pub mod Lines
pub mod Properties
pub mod Projects
pub mod Streams
pub mod PropertyStreams
pub mod Texts
pub mod MacroDirectory
