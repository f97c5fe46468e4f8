mod DecimalLemmas
mod DigitLemmas
mod FractionLemmas
mod GeneralLemmas
mod KnownFacts
mod LowestLemmas
