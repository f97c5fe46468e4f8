pub mod UnitLemmas
pub mod TextLemmas
pub mod NoteLemmas
pub mod ObjectLemmas
pub mod LastLemmas
pub mod StandardFacts
