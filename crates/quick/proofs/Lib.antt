pub mod Passing
pub mod Judging
