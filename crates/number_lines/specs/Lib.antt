pub mod Words
pub mod Texts
pub mod Judged
pub mod Numbering
pub mod Over
pub mod steps
