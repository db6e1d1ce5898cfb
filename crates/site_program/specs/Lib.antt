pub mod Jobs
pub mod Numbers
pub mod Answers
pub mod Runs
pub mod steps
