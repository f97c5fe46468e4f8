pub mod AppendLemmas
pub mod LinkFacts
pub mod PathFacts
pub mod PathLemmas
pub mod PrefixFacts
pub mod QuoteFacts
pub mod QuoteLemmas
pub mod TableFacts
