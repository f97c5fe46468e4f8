pub mod DayLemmas
pub mod ShortLemmas
pub mod StandardFacts
pub mod HexLemmas
