pub mod Table
pub mod Refusals
pub mod Assembly
pub mod Verdicts
