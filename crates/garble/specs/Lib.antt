pub mod Formats
pub mod Garbled
pub mod Interpretation
