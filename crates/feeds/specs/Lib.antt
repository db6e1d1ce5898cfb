pub mod Report
pub mod Gate
pub mod Ask
pub mod Pull
pub mod Serve
pub mod steps
