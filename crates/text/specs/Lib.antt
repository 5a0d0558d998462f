pub mod Text
pub mod Determined
pub mod Decimal
pub mod Parts
pub mod Output
