-- What is proved of opening a journal (specs/Opening): what a box wrote is what it finds again (ReplayLaws), whatever byte the power failed at (TornLaws).
pub mod LinesLaws
pub mod LineSpelling
pub mod OpeningLaws
pub mod StepLine
pub mod LongestLaws
pub mod ReplayLaws
pub mod OpeningExactly
pub mod TornLaws
pub mod DiskLaws
pub mod LifeLaws
