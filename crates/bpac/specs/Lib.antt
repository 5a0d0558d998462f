pub mod Bpac
pub mod Machine
pub mod Examples
pub mod Determined
