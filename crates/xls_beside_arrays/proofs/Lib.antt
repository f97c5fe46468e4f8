pub mod EndLemmas
pub mod LaidLemmas
pub mod ListLemmas
pub mod OpenLemmas
pub mod OutsideLemmas
pub mod StandardFacts
