pub mod Durable
pub mod Files
