mod FractionFacts
mod RoleLemmas
mod RatioLemmas
mod TextLemmas
