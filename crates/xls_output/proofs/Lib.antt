pub mod PieceLemmas
pub mod GatherLemmas
pub mod OutputLemmas
pub mod StandardFacts
pub mod EachLemmas
