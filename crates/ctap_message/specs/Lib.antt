pub mod Members
pub mod Fields
pub mod DescriptorWalk
pub mod Collected
pub mod Requests
pub mod RequestFaults
pub mod Views
pub mod Responses
