mod PrefixLemmas
mod LeafLemmas
mod GroupLemmas
mod AddedLemmas
mod OperandLemmas
