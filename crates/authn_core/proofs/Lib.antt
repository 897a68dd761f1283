pub mod Kept
mod Examples
pub mod Histories
mod Served
