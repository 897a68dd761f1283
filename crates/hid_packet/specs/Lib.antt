pub mod Packet
pub mod Message
pub mod Queue
