mod Written
mod Bytes
mod RowBlock
mod Padding
mod Rounds
pub mod Pads
