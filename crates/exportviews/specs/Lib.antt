pub mod Views
pub mod Areas
pub mod Satellites
pub mod Theorems
pub mod Determined
