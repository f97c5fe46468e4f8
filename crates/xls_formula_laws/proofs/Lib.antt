mod EffectLemmas
mod KnownFacts
mod ReadingLemmas
mod StepLemmas
mod TextLemmas
