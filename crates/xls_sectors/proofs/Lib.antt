pub mod ChainLemmas
pub mod SpaceLemmas
pub mod RunLemmas
pub mod ReadLemmas
pub mod TableLemmas
pub mod AnswerLemmas
pub mod StandardFacts
