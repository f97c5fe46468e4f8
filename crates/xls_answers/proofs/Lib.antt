pub mod FailureLemmas
pub mod FileLemmas
pub mod SheetLemmas
pub mod HiddenLemmas
pub mod StandardFacts
pub mod HiddenPartLemmas
