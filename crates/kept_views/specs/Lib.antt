pub mod Seed
pub mod Tables
pub mod steps
