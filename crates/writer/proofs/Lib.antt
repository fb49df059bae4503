pub mod WriterLaws
pub mod FileParts
pub mod ContentLaws
pub mod WriteRows
