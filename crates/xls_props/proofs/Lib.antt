pub mod EntryLemmas
pub mod NulLemmas
pub mod DayLemmas
pub mod NameLemmas
pub mod CustomLemmas
pub mod StandardFacts
pub mod FieldLemmas
