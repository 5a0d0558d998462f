pub mod Fields
pub mod Columns
pub mod Packed
pub mod Meant
pub mod Determined
pub mod Numbered
