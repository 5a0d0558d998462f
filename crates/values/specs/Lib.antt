pub mod Results
pub mod Values
pub mod Columns
pub mod Laws
pub mod Ranges
pub mod Determined
