pub mod Moments
pub mod Fields
pub mod Scans
pub mod Texts
pub mod Shown
