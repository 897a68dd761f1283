pub mod Chain
pub mod Unlinked
pub mod Filled
mod Examples
pub mod Listing
pub mod SavedRows
pub mod Stored
pub mod OneSnapshot
pub mod Typed
