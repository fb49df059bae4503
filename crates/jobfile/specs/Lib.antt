pub mod Bytes
pub mod VectorsBody
pub mod Layout
pub mod Open
pub mod BodyKind
