pub mod TextLemmas
pub mod ReadLemmas
pub mod ItemLemmas
pub mod RowLemmas
pub mod ColumnLemmas
pub mod RangeLemmas
pub mod KeyLemmas
pub mod StandardFacts
