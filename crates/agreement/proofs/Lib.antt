pub mod InWordsLaws
pub mod LentCalls
