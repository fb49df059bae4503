pub mod Reader
pub mod Stored
pub mod Open
