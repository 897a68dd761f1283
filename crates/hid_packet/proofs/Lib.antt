pub mod Queueing
pub mod MessagePackets
mod Examples
