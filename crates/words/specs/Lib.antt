pub mod Bits
pub mod Searching
pub mod Counting
pub mod Turning
pub mod Answers
pub mod Writing
pub mod Open
