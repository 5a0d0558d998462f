pub mod Hpac
pub mod Machine
pub mod Examples
pub mod Determined
pub mod Rows
pub mod Spans
