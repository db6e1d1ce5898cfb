pub mod Fault
pub mod Calls
pub mod Each
pub mod Lookups
pub mod Counting
