pub mod Days
pub mod Lines
