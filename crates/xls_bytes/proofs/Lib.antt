pub mod SizeLemmas
pub mod WholeLemmas
pub mod QuotientLemmas
pub mod TruncLemmas
pub mod U32Lemmas
pub mod ColumnLemmas
pub mod GrownLemmas
pub mod EscapeLemmas
pub mod CharacterLemmas
mod StandardFacts
