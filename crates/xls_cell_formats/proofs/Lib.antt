mod TextLemmas
mod KeptLemmas
mod CodeFacts
mod CellFormatFacts
