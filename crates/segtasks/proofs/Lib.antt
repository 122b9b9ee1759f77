pub mod Building
pub mod NoHelp
pub mod Options
mod WordsFacts
pub mod WordsRead
