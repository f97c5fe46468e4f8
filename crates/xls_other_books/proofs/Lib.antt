pub mod PathLemmas
pub mod BookLemmas
pub mod CiteLemmas
pub mod StandardFacts
