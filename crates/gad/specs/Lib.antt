pub mod Gad
pub mod Machine
pub mod Determined
pub mod Rows
