pub mod LineLemmas
pub mod ReadingLemmas
pub mod DisplayedLemmas
pub mod RefLemmas
pub mod SheetLemmas
pub mod StandardFacts
pub mod ExactFacts
pub mod ExactLemmas
