pub mod Alike
pub mod Shared
pub mod Laws
