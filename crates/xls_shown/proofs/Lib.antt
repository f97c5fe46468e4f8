mod FormatLemmas
mod GeneralLemmas
mod SignLemmas
mod TextLemmas
mod ShownFacts
