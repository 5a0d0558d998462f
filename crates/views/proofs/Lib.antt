pub mod Entries
pub mod Seeks
pub mod Gads
pub mod Ocbs
pub mod Calls
pub mod Bpacs
pub mod Hpacs
