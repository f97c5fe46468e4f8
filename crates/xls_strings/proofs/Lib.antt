pub mod TextLemmas
pub mod MarkLemmas
pub mod SstLemmas
pub mod StandardFacts
