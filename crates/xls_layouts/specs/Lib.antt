pub mod TableGrammar
pub mod LaidStrings
pub mod Layout
pub mod Canonical
pub mod Laws
