pub mod Examples
pub mod CheckedExamples
pub mod Collecting
pub mod Responses
pub mod Requests
