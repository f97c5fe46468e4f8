pub mod AddedLemmas
pub mod AsciiLemmas
pub mod FiniteLemmas
pub mod FractionLemmas
pub mod OrderLemmas
pub mod ReadingLemmas
pub mod LawLemmas
pub mod StandardFacts
