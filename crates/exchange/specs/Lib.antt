pub mod Lacking
pub mod Unite
pub mod Place
pub mod Schedule
pub mod Standing
pub mod steps
