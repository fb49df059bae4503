pub mod Record
pub mod Calls
pub mod Drive
pub mod Open
