pub mod UnitLemmas
pub mod PageLemmas
pub mod Utf8Lemmas
pub mod Utf16Lemmas
mod StandardFacts
