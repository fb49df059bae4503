pub mod StoredWords
pub mod Bodies
pub mod ReaderAnswers
pub mod ReaderLaws
