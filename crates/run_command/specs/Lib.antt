pub mod Ending
pub mod Fault
pub mod Outcome
pub mod Peer
pub mod Run
pub mod Shared
pub mod Tally
pub mod Through
