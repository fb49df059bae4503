pub mod WordsApart
pub mod StepOneWords
pub mod WordsTaken
pub mod StepTwoVectors
pub mod BothSteps
