pub mod Effect
pub mod steps
pub mod OfFile
