pub mod Blocks
pub mod Lacking
