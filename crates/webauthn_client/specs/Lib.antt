pub mod ClientData
pub mod RelyingParty
