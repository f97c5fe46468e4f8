pub mod WalkLemmas
pub mod DistinctLemmas
pub mod ViewLemmas
pub mod EqualLemmas
mod StandardFacts
