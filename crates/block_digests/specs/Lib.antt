pub mod Number
pub mod Block
pub mod Digest
pub mod Kept
pub mod Laws
pub mod Lacking
pub mod Unite
pub mod steps
