pub mod FoundLemmas
pub mod WalkLemmas
pub mod TokenLemmas
pub mod StandardFacts
