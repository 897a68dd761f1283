pub mod CommandLine
mod Examples
pub mod Compared
