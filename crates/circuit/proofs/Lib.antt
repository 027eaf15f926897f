pub mod Arrays
pub mod Numbers
pub mod AndThen
mod Places
pub mod Values
pub mod Many
mod Accepted
mod Written
mod Drafts
pub mod Writes
pub mod Lawful
