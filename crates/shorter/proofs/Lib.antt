pub mod Ordered
pub mod Trying
pub mod FloorLaws
pub mod Parts
pub mod KeptSets
pub mod ShortenTable
