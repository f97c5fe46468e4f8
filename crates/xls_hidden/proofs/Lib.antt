pub mod RunLemmas
pub mod HiddenLemmas
pub mod StandardFacts
pub mod FilterAreaLemmas
pub mod LongestLemmas
