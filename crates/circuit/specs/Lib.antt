pub mod Numbers
pub mod Circuit
pub mod Refusals
pub mod Format
pub mod Meaning
pub mod Promises
pub mod Kept
