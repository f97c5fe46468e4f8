pub mod FileLemmas
mod PathLemmas
pub mod StandardFacts
