mod TimeLemmas
mod MomentFacts
mod ScanLemmas
mod FieldFacts
mod TextLemmas
mod TextFacts
mod LawLemmas
