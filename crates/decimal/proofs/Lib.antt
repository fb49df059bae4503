pub mod Numerals
pub mod Putting
