pub mod Writer
pub mod Content
pub mod Open
