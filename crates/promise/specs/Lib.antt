pub mod Received
pub mod Exchange
pub mod Pairing
pub mod Simulation
pub mod Openers
pub mod Promise
