pub mod Crash
pub mod Lists
pub mod Services
