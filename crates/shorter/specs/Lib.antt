pub mod Shorter
pub mod Shorten
pub mod Open
