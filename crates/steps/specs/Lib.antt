pub mod FirstStep
pub mod SecondStep
pub mod Open
