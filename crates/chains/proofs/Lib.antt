pub mod Last
pub mod Following
pub mod Adding
