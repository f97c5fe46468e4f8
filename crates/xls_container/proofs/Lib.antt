pub mod EntryLemmas
pub mod StandardFacts
pub mod StepLemmas
pub mod AnswerLemmas
