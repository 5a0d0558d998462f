pub mod Tables
pub mod Ocb
pub mod Machine
pub mod Examples
pub mod Determined
pub mod Rows
