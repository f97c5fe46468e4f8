pub mod StandardFacts
pub mod CauseLemmas
pub mod BesideLemmas
pub mod FileLemmas
pub mod NameLemmas
pub mod OutputLemmas
