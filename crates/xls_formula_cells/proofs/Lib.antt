pub mod OrderLemmas
pub mod StandardFacts
