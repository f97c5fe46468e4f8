mod TextLemmas
mod TellLemmas
mod NameLemmas
pub mod StandardFacts
