pub mod TextLemmas
pub mod BracketLemmas
pub mod HeadLemmas
pub mod WalkLemmas
mod GrammarFacts
pub mod ScanLemmas
pub mod FormatLemmas
mod SectionFacts
mod ChoiceFacts
pub mod TestLemmas
pub mod LawLemmas
pub mod ShownLemmas
