pub mod Cycle
pub mod Draws
pub mod Frequency
pub mod Load
pub mod Words
