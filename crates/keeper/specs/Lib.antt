pub mod Fault
pub mod Keep
pub mod Flush
pub mod FlushCode
pub mod Law
pub mod steps
