pub mod Turn
pub mod Open
