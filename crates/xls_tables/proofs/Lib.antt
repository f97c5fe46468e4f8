pub mod BoxLemmas
pub mod FieldLemmas
pub mod TableLemmas
pub mod NameLemmas
pub mod StandardFacts
pub mod NumberLemmas
