pub mod CoverChains
pub mod FirstSteps
pub mod DrivenBits
pub mod WalkingSets
pub mod NoneShorter
pub mod FewestCases
