pub mod Rule
pub mod Passed
pub mod Seen
pub mod Check
pub mod Open
