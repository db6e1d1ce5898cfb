pub mod Note
pub mod File
pub mod Opened
