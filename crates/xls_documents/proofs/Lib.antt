pub mod LineLemmas
pub mod StreamLemmas
pub mod ProjectLemmas
pub mod FoundLemmas
pub mod DirectoryLemmas
pub mod StandardFacts
pub mod PropertyFacts
