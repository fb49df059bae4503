pub mod ReadingBack
pub mod DiagnosisLaws
pub mod Gathering
pub mod Noting
