pub mod HashLemmas
pub mod EndLemmas
pub mod DirectoryLemmas
pub mod NameLemmas
pub mod StandardFacts
pub mod OneReadingLemmas
pub mod RefusalLemmas
pub mod TokenLemmas
pub mod ContainerLemmas
pub mod CompressionLemmas
mod CompressionFacts
