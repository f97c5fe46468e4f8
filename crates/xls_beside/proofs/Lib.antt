pub mod CheckedLemmas
pub mod LineLemmas
pub mod PartLemmas
pub mod CommentsLemmas
pub mod LinksLemmas
pub mod DamagedLemmas
pub mod StandardFacts
