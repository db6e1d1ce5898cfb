pub mod Words
pub mod Member
pub mod Place
pub mod Lines
pub mod Quiet
