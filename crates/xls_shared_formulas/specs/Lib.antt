pub mod Fields
pub mod Found
pub mod Contents
pub mod Start
pub mod Walking
pub mod Laws
