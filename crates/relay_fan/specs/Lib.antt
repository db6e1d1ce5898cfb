pub mod Fan
pub mod steps
