pub mod Entries
pub mod Ranges
pub mod Theorems
pub mod Determined
