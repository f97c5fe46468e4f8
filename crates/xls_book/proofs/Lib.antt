pub mod OpenLemmas
pub mod TakeLemmas
pub mod NamedLemmas
pub mod DisplayedLemmas
pub mod WorksheetLemmas
