pub mod Results
pub mod Messages
pub mod Machine
pub mod Determined
pub mod Rows
