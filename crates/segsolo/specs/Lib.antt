pub mod Alone
pub mod Props
pub mod Served
pub mod Solo
pub mod Stored
pub mod Words
