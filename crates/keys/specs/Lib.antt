pub mod Drawing
pub mod Files
pub mod Promises
pub mod Heads
