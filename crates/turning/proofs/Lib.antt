pub mod Filling
pub mod TurnLaws
