pub mod Single
pub mod Double
pub mod Pages
pub mod Laws
