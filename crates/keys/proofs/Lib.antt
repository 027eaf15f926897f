pub mod Coloured
pub mod Draws
pub mod Filed
mod Sums
