pub mod Choices
pub mod Values
pub mod Csv
pub mod Laws
pub mod Items
pub mod Json
pub mod Lines
pub mod Growth
