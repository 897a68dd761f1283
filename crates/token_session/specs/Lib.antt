pub mod Machine
pub mod Inputs
pub mod Noise
pub mod Meters
pub mod Carried
pub mod Answered
pub mod History
