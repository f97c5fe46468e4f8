pub mod NameLemmas
pub mod StandardFacts
