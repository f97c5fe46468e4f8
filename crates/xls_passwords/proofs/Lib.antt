pub mod Rc4Lemmas
mod Rc4Facts
pub mod XorLemmas
pub mod KeyLemmas
pub mod RecordLemmas
pub mod PlainLemmas
pub mod LawLemmas
mod XorFacts
mod SchemeFacts
mod StreamFacts
mod KeyFacts
mod CryptoApiFacts
