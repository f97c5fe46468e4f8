pub mod TextLemmas
mod NumberLemmas
pub mod PutLemmas
pub mod WalkLemmas
pub mod Rendering
mod StandardFacts
