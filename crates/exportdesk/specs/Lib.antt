pub mod Rooms
pub mod States
pub mod Desks
pub mod Finds
pub mod Stored
pub mod Theorems
pub mod FindTheorems
pub mod Determined
