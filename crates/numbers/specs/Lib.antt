pub mod Numberer
pub mod Numbered
pub mod Law
pub mod Refusal
pub mod Filter
pub mod Counts
pub mod Aside
