pub mod State
pub mod Tests
pub mod Books
pub mod Runs
pub mod Seconds
pub mod Frames
pub mod Looking
