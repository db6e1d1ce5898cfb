pub mod Route
pub mod Relay
pub mod Call
pub mod Fault
