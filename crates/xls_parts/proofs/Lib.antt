pub mod PartRecordsLemmas
pub mod PartLemmas
pub mod StandardFacts
