pub mod Bits
pub mod Part
pub mod Examples
pub mod Laws
pub mod Determined
