mod ExponentFacts
mod ExponentLemmas
mod GeneralFacts
mod GeneralLemmas
mod LawLemmas
mod NumberLemmas
mod PlainFacts
pub mod PlainLemmas
pub mod ShownLemmas
