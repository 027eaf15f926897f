pub mod Words
pub mod Hash
pub mod Turns
pub mod Pads
