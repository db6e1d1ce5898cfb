pub mod Lines
pub mod Words
pub mod Answers
pub mod Judged
pub mod Written
pub mod Acknowledged
pub mod Follow
