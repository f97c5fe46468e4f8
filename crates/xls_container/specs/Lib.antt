pub mod Kinds
pub mod Texts
pub mod Files
pub mod Obfuscation
pub mod Contents
pub mod Laws
