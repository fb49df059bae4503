pub mod ReadBack
pub mod Walking
pub mod Diagnosis
pub mod Open
