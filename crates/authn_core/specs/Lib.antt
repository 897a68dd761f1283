pub mod State
pub mod Turn
pub mod Signed
pub mod Marks
pub mod Answers
pub mod Padded
pub mod Views
