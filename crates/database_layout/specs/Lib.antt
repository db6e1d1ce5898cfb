pub mod Tables
pub mod Texts
pub mod Layout
pub mod Making
pub mod Beside
pub mod Law
pub mod States
pub mod steps
