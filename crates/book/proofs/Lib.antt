pub mod Reading
pub mod Searching
pub mod Blocks
pub mod Payloads
pub mod Taking
