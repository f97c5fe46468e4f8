pub mod EqualityLemmas
pub mod StandardFacts
pub mod TextLemmas
