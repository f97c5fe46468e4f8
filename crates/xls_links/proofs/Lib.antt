pub mod HexLemmas
pub mod TextLemmas
pub mod MonikerLemmas
pub mod LinkLemmas
pub mod StandardFacts
