pub mod Lines
pub mod Messages
pub mod Owners
pub mod Ends
pub mod Walks
pub mod Whole
pub mod Channels
