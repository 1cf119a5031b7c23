-- Messages, boxes and journals as numbers, for callers in C and Rust.
pub mod Frames
pub mod FrameLaws
pub mod Boxes
pub mod BoxLaws
pub mod Journals
pub mod Orders
pub mod OrderLaws
