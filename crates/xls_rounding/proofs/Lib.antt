mod DecimalLemmas
mod FormulaLemmas
mod LimbLemmas
pub mod PlaceLemmas
mod ScaleLemmas
mod StandardFacts
