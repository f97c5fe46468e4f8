mod RequestLemmas
mod StandardFacts
