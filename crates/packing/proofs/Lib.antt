pub mod Words
pub mod Tabling
