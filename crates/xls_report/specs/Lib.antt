pub mod Faults
pub mod Remaking
pub mod Texts
pub mod Endings
