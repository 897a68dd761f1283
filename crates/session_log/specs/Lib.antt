pub mod Grammar
pub mod Semantics
pub mod Check
pub mod Replay
pub mod Lines
pub mod Command
