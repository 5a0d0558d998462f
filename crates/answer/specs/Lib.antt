pub mod Number
pub mod Place
pub mod Stop
pub mod Matched
pub mod Further
pub mod Determined
pub mod Pairs
