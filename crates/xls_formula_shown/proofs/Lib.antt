mod HeldLemmas
mod MarkLemmas
mod PutLemmas
mod WaitingLemmas
mod TokenLemmas
mod WalkLemmas
mod ShownFacts
