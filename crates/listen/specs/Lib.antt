pub mod Events
pub mod Lines
pub mod Listens
pub mod Lengths
pub mod Outgoing
pub mod Theorems
