pub mod Splitting
pub mod Strings
pub mod Monikers
pub mod Items
pub mod Links
pub mod Texts
pub mod Walking
