pub mod ReadingLemmas
pub mod PieceLemmas
pub mod StandardFacts
