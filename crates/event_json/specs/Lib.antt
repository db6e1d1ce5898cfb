pub mod Fault
pub mod Payload
pub mod Spelling
pub mod Reading
pub mod Parts
pub mod Faulty
pub mod BatchText
pub mod steps
