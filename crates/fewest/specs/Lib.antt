pub mod Fewest
pub mod FewestCases
pub mod Open
