pub mod ExactLemmas
pub mod NamedLemmas
pub mod CheckLemmas
pub mod EndingLemmas
pub mod StandardFacts
