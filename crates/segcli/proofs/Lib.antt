pub mod HexWords
pub mod Printed
pub mod Showing
pub mod TotalsText
pub mod ReplayText
