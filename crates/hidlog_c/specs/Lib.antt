pub mod Changed
pub mod Owned
pub mod Lending
pub mod Begin
pub mod Held
pub mod Key
pub mod Reports
pub mod Commands
