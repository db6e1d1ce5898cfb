pub mod Pass
pub mod PassCode
pub mod Seat
pub mod Law
pub mod steps
