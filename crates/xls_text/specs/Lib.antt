pub use Rattle.bstr.specs.Utf8
pub use Rattle.xls_bytes.specs.Numbers
pub mod Pages
pub mod Utf8Reading
pub mod Utf16Reading
pub mod Errors
