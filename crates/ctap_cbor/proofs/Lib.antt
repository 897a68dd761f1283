pub mod Examples
pub mod Items
pub mod Cursors
pub mod Parsing
pub mod Written
pub mod Moves
pub mod Outcomes
