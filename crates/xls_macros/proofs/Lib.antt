pub mod LineLemmas
pub mod ModuleLemmas
pub mod NewlineLemmas
pub mod PageLemmas
pub mod StandardFacts
pub mod StreamLemmas
