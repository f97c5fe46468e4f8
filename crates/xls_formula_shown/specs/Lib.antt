pub mod Scope
pub mod State
pub mod ShownEffects
pub mod ShownFold
pub mod Steps
pub mod Held
