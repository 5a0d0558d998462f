pub mod Telling
pub mod Turns
pub mod Reading
pub mod Digits
pub mod Ticking
pub mod Wanting
