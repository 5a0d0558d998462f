pub mod Returns
pub mod Moving
