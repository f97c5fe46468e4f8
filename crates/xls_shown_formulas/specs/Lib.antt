pub mod Refusals
pub mod Tables
pub mod Books
pub mod Sheets
pub mod Workbooks
