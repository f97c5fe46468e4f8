pub mod HexLemmas
pub mod PlaceLemmas
pub mod ColorLemmas
pub mod StandardFacts
