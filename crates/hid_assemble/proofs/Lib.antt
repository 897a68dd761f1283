pub mod Receiving
mod Examples
pub mod Rows
