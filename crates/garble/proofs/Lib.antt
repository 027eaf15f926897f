mod Counts
pub mod Written
