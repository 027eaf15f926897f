pub mod Colours
pub mod Lists
pub mod Marked
pub mod Derived
pub mod Blocks
mod Bare
mod Laws
pub mod Tables
pub mod Rows
pub mod Layouts
mod Reach
mod Known
mod Runs
mod Schemes
mod Simulated
pub mod Opens
mod Missed
mod Worked
pub mod Stated
pub mod Pairs
mod Hiding
mod Differences
mod Answered
