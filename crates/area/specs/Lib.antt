pub mod Area
pub mod Laws
pub mod Plain
pub mod Examples
pub mod Determined
