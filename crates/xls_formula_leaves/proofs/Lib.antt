mod LeafLemmas
mod NumberLemmas
mod ArrayLemmas
mod LeafFacts
