pub mod TextLemmas
pub mod ListLemmas
pub mod PrefixFacts
pub mod NameFacts
pub mod StandardFacts
