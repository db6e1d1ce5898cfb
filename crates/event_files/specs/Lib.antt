pub mod Numbers
pub mod Shelves
pub mod Files
