pub mod Walking
pub mod Outer
pub mod Cells
pub mod Records
pub mod SheetTable
pub use Rattle.xls_stream.specs.Stream
pub mod Lines
