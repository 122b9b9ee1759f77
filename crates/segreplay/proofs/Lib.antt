pub mod Steps
pub mod Feeding
pub mod Lists
pub mod Fields
pub mod Written
