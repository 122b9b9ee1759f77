pub mod Digits
pub mod LineBuffers
