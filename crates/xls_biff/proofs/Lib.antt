pub mod OuterLemmas
pub mod ListLemmas
pub mod TableLemmas
pub mod PlaceLemmas
pub mod StandardFacts
