pub mod History
pub mod View
pub mod Rule
pub mod Step
pub mod Turn
