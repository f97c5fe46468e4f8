pub mod BuiltinLemmas
pub mod DayLemmas
pub mod HexLemmas
pub mod SectionLemmas
pub mod StandardFacts
pub mod WalkLemmas
