pub mod Recycling
pub mod Rings
pub mod Tallies
