-- What is proved of frames (specs/): reading is exactly the definition, and a frame has one spelling (OneSpelling).
pub mod ReadingLaws
pub mod Spelling
pub mod OneSpelling
