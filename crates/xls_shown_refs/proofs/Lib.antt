pub mod Known
mod CitationFacts
mod SheetFacts
mod CountLemmas
mod SpelledLemmas
mod ItemLemmas
mod KeyLemmas
mod StepLemmas
mod WaitingLemmas
mod WalkLemmas
mod PassLemmas
mod FollowLemmas
