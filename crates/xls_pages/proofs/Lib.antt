mod TableFacts
mod AsciiLemmas
