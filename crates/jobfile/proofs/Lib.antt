pub mod ByteLaws
pub mod FileRows
pub mod StoredVectors
