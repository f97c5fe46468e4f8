pub mod Roles
pub mod Needs
pub mod Scans
pub mod Ratios
pub mod Shown
pub mod Texts
