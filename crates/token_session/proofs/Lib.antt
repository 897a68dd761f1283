pub mod Serve
mod Examples
pub mod Sizes
pub mod Follows
pub mod Carrying
pub mod Answered
pub mod Headline
pub mod Metering
