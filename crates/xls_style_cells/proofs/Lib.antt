pub mod AscendingLemmas
pub mod SettledLemmas
pub mod PlaceLemmas
pub mod WalkLemmas
pub mod TableLemmas
pub mod StandardFacts
