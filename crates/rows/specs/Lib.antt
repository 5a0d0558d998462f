pub mod Rows
pub mod Cells
pub mod Along
pub mod Walk
pub mod Puts
pub mod Determined
