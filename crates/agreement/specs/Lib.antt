pub mod InWords
pub mod LentCalls
