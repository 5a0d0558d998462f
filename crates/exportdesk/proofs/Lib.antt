pub mod Laws
pub mod Thirteen
pub mod Telling
pub mod Finding
