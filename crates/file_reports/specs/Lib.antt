pub mod Reports
pub mod steps
