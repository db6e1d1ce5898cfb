pub mod Tally
pub mod Number
pub mod Latest
pub mod Day
pub mod Line
pub mod Question
pub mod Law
pub mod steps
