pub mod PartRecords
pub mod Laws
pub mod Steps
pub mod Walking
