pub mod Builtin
pub mod Classes
pub mod Dates
pub mod Numbers
pub mod SerialDays
pub mod Walk
