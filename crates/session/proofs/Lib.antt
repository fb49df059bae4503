pub mod Padding
pub mod Stepping
pub mod Records
