pub mod Reading
pub mod Joint
pub mod States
pub mod Rows
pub mod Respond
pub mod OwnReceivers
pub mod Refusing
pub mod Open
