pub mod BodyLemmas
pub mod StandardFacts
